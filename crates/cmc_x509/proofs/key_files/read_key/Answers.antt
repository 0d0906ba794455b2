use Rattle.cmc_x509.proofs.FileLaws.{answer_found, answer_only, answer_refused}
use Rattle.cmc_x509.proofs.key_files.read_key.Goals as goal

pub returns-clause-found : goal.returns-clause-found
returns-clause-found c = answer_found c.key_file.result c.args.input.now c.key_file.ensures

pub returns-clause-only : goal.returns-clause-only
returns-clause-only c = answer_only c.key_file.result c.args.input.now c.key_file.ensures

pub returns-clause-not_form : goal.returns-clause-not_form
returns-clause-not_form c = answer_refused c.key_file.result c.args.input.now c.key_file.ensures

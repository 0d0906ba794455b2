-- What a source and a sink in memory tell.
use Rattle.std.specs.Prelude.{ℕ, ◌==◌, Bool, List, drop}
use Rattle.std.specs.List.{list_any}
use Rattle.cmrun.specs.Ends.{risen}
use Rattle.cmrun.specs.declared.memory.MemSource.{MemSource}
use Rattle.cmrun.specs.declared.memory.MemSink.{MemSink}

-- The bytes that were not read yet.
abbrev pub left_in : MemSource → List ℕ
left_in s = drop s.at s.bytes

-- The bytes that were written.
abbrev pub sink_bytes : MemSink → List ℕ
sink_bytes s = s.bytes.items

-- How many reads have failed.
abbrev pub read_faults : MemSource → ℕ
read_faults s = s.faults

-- How many writes have failed.
abbrev pub write_faults : MemSink → ℕ
write_faults s = s.faults

-- The numbers of the reads that fail, from 1.
abbrev pub failing_reads : MemSource → List ℕ
failing_reads s = s.failing

-- The numbers of the writes that fail, from 1.
abbrev pub failing_writes : MemSink → List ℕ
failing_writes s = s.failing

-- How many reads were made.
abbrev pub reads_made : MemSource → ℕ
reads_made s = s.calls

-- How many writes were made.
abbrev pub writes_made : MemSink → ℕ
writes_made s = s.calls

-- The number is one of these.
abbrev pub is_among : ℕ → List ℕ → Bool
is_among number numbers = list_any (λ n. n == number) numbers

-- The next read is one of those that fail.
abbrev pub fails_next_read : MemSource → Bool
fails_next_read s = is_among (risen (reads_made s)) (failing_reads s)

-- The next write is one of those that fail.
abbrev pub fails_next_write : MemSink → Bool
fails_next_write s = is_among (risen (writes_made s)) (failing_writes s)

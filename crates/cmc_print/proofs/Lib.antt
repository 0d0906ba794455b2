mod FloatFree
mod Bare

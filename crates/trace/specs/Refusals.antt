-- The number of each cause for which a file or a call is declined.
use Rattle.std.specs.Prelude.{ℕ}
use Rattle.trace.specs.declared.refusal.Cause.{Cause}
use Rattle.trace.specs.declared.refusal.Cause.TheVariants.{Short, Version, Length, Head, Missing, Unknown, TooMuch, TooManyRuns, HandInLength, NoSuchRun, IdleRun, StartRegisters, Misfit, Forbidden, Overlong, Ending, NoRoom, Stream}

abbrev pub number_of : Cause → ℕ
number_of Short = 1  -- a file has fewer than three bytes
number_of Version = 2  -- its version byte is not 1
number_of Length = 3  -- its length differs from the bytes that follow
number_of Head = 4  -- the number of values, registers or locations is missing or out of limits
number_of Missing = 5  -- an operand or a length is missing, a length passes its end, or a byte is left over
number_of Unknown = 6  -- a statement is unknown, or an operand is out of limits
number_of TooMuch = 7  -- a 33rd statement, or a block nine deep
number_of TooManyRuns = 8  -- a snippet has more than 4,096 runs
number_of HandInLength = 9  -- the rest of a hand-in is not 4 + 4s bytes, s from 0 to 64
number_of NoSuchRun = 10  -- a run number is not below the number of runs
number_of IdleRun = 11  -- a run of a hand-in is idle
number_of StartRegisters = 12  -- the two runs start from different registers
number_of Misfit = 13  -- a step's rule is unknown, or it does not fit the word
number_of Forbidden = 14  -- the model does not allow a step
number_of Overlong = 15  -- the word would have 49 events
number_of Ending = 16  -- the word or the end registers differ after the last step
number_of NoRoom = 17  -- the caller's events or bytes are too few
number_of Stream = 18  -- a stream is empty, too long, or of an unknown model

-- What is answered where a stream is opened: its parts, or why it cannot be judged.
use Rattle.std.specs.Prelude.{◌≡◌, ℕ, List, Ok, Err, Result}
use Rattle.trace.specs.declared.refusal.Refusal.{Refusal}
use Rattle.trace.specs.declared.refusal.Cause.TheVariants.{Stream}
use Rattle.snippet.specs.Parse.{refusal}
use Rattle.parts.specs.Left.{left}
use Rattle.stream.specs.Models.{byte_of, meaning_of}
use Rattle.stream.specs.Printed.{Unfit, Fit}
use Rattle.stream.specs.declared.opened.Opened.{Opened}

abbrev pub OpenedAs : List ℕ → Result Opened Refusal → Type 0
OpenedAs stream (Ok o) = Fit stream (byte_of o.model) (meaning_of o.model) o.file.now (left o.hand_ins.parts)
OpenedAs stream (Err e) = Unfit stream × (e ≡ refusal Stream 0)

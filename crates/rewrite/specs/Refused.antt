-- What a denied step is declined for.
use Rattle.trace.specs.declared.refusal.Refusal.{Refusal}
use Rattle.trace.specs.declared.refusal.Cause.{Cause}
use Rattle.trace.specs.declared.refusal.Cause.TheVariants as causes
use Rattle.rewrite.specs.declared.working.Denied.{Denied}
use Rattle.rewrite.specs.declared.working.Denied.TheVariants.{Misfit, Forbidden, Overlong}
use Rattle.rewrite.specs.declared.working.Stopped.{Stopped}

-- The cause for which a step is denied: 13, 14 or 15.
abbrev pub cause_of : Denied → Cause
cause_of Misfit = causes.Misfit
cause_of Forbidden = causes.Forbidden
cause_of Overlong = causes.Overlong

-- That cause, at the step that was denied.
abbrev pub refusal_of : Stopped → Refusal
refusal_of e = record { cause = cause_of e.why; place = e.step }

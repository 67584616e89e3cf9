-- What a pass over a text says of its refusals.
use Rattle.lang_base.specs.declared.refusal.Refusal.{Refusal}
use Rattle.lang_base.specs.declared.refusal.Stop.{Stop}
use Rattle.lang_base.specs.declared.refusal.Stop.TheVariants as stop

-- a fact of the refusal, where what stopped isn't that memory ran out
abbrev pub IfRefused : Stop → (Refusal → Type 0) → Type 0
IfRefused (stop.Refused refusal) P = P refusal
IfRefused stop.NoMemory P = Unit {0}

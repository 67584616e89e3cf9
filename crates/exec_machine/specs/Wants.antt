-- The effects with which a task is to enter that rests in front of an entry.
use Rattle.std.specs.Prelude.{◌≡◌, ℕ, ◌==◌, if◌then◌else◌, List, map, false, Option, Some, None, option_map, slice_get}
use Rattle.lang_base.specs.declared.effect.Effect.{Effect}
use Rattle.lang_base.specs.declared.elems.Elem.{Elem}
use Rattle.lang_base.specs.declared.elems.Elem.TheVariants as elem
use Rattle.lang_base.specs.declared.elems.Index.TheVariants as index
use Rattle.lang_base.specs.declared.region.Head.TheVariants.{Root}
use Rattle.lang_meaning.specs.Values.{Part, Region_name, Number, Local, Own_index, Any_index, Any_parts}
use Rattle.lang_meaning.specs.Actions.{Effect as EffectOf}
use Rattle.lang_meaning.specs.Asking.{most_ticks}
use Rattle.lang_meaning.specs.Regions.{around, concrete_effect}
use Rattle.code_instrs.specs.declared.instr.Instr.{Instr}
use Rattle.code_instrs.specs.declared.instr.Instr.TheVariants as i
use Rattle.code_instrs.specs.Machine.{Level, State, On, Rested, Off, Nowhere}
use Rattle.code_instrs.specs.Plain.{Line, Site, block_site, PlainCode, body_at}
use Rattle.exec_task.specs.Names.{names_of}
use Rattle.exec_task.specs.declared.action.Action.{Action}
use Rattle.exec_task.specs.declared.action.Action.TheVariants as action
use Rattle.exec_task.specs.declared.action.Own.TheVariants as own

-- the effects of an entry in the frame of a level, and by its site
abbrev pub effects_of : Level ℕ (ℕ × ℕ) → Option (List Effect) → Option (List (EffectOf (ℕ × ℕ)))
effects_of g accesses = option_map (map (concrete_effect (names_of 0) (around g.frame))) accesses

abbrev pub accesses_of : Option Site → Option (List Effect)
accesses_of (Some (block_site accesses)) = Some accesses
accesses_of site = None

abbrev pub entry_by : PlainCode → Level ℕ (ℕ × ℕ) → Instr → Option (List (EffectOf (ℕ × ℕ)))
entry_by C g (i.Enter s) = effects_of g (accesses_of (slice_get C.sites s))
entry_by C g x = None

abbrev pub entry_of : PlainCode → Level ℕ (ℕ × ℕ) → Option Line → Option (List (EffectOf (ℕ × ℕ)))
entry_of C g None = None
entry_of C g (Some l) = entry_by C g l.instr

-- the effects with which a task is to enter that rests here, if this is in front of an entry
abbrev pub wants_at : PlainCode → State ℕ (ℕ × ℕ) → Option (List (EffectOf (ℕ × ℕ)))
wants_at C (On g fs) = entry_of C g (slice_get (body_at C g.body).lines g.at)
wants_at C (Rested g fs) = None
wants_at C (Off e) = None
wants_at C Nowhere = None

-- an effect as it is noted: its path begins at the root, and each index is a whole number
abbrev pub noted_part : Part (ℕ × ℕ) → Elem
noted_part (Region_name n) = elem.Name n
noted_part (Number k) = elem.At (index.Literal k)
noted_part (Local l) = elem.Local l.0 l.1
noted_part Own_index = elem.At (index.Own 0)
noted_part Any_index = elem.Any
noted_part Any_parts = elem.Star

abbrev pub noted : EffectOf (ℕ × ℕ) → Effect
noted e = record { access = e.access; atomic = false; rpl = record { head = Root; elems = map noted_part e.region } }

-- what a task wants that rests here after so many ticks. After the last tick that may be made without an event it rests once
-- more in front of an entry, and wants nothing yet
abbrev pub wanted_after : PlainCode → ℕ → State ℕ (ℕ × ℕ) → Option (List (EffectOf (ℕ × ℕ)))
wanted_after C ticks z = if ticks == most_ticks then None else wants_at C z

-- a task that rests has noted what it wants
abbrev pub WantsRightly : PlainCode → State ℕ (ℕ × ℕ) → ℕ → Action → Option (List Effect) → Type 0
WantsRightly C z ticks (action.Do own.Rest) wants = wants ≡ option_map (map noted) (wanted_after C ticks z)
WantsRightly C z ticks a wants = Unit {0}

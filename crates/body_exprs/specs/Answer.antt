-- What is said of an expression where it stands, and what reads add to what was found before.
use Rattle.std.specs.Prelude.{ℕ, Bool, true, false, ◌||◌, List, [], ◌∷◌, ◌++◌, map, Option, Some, Result, Ok, Err}
use Rattle.lang_base.specs.declared.effect.Access.{Access}
use Rattle.lang_base.specs.declared.effect.Access.TheVariants.{Read}
use Rattle.lang_base.specs.declared.effect.Effect.{Effect}
use Rattle.lang_base.specs.declared.place.Place.{Place}
use Rattle.lang_base.specs.declared.refusal.Kind.TheVariants as kind
use Rattle.lang_base.specs.declared.refusal.Refusal.{Refusal}
use Rattle.lang_base.specs.declared.refusal.Stop.{Stop}
use Rattle.lang_base.specs.declared.region.Rpl.{Rpl}
use Rattle.lang_base.specs.Effects.{added, gathered}
use Rattle.lang_base.specs.Refused.{IfRefused}
use Rattle.decl_headers.specs.Passes.{fault}
use Rattle.decl_table.specs.declared.rows.MethodRow.{MethodRow}
use Rattle.decl_table.specs.declared.table.Table.{Table}
use Rattle.decl_table.specs.Table.{is_forking}
use Rattle.lang_typed.specs.Plain.{TypedExpr}
use Rattle.body_exprs.specs.declared.found.Found.{Found}
use Rattle.body_exprs.specs.Found.{access_to, part_access, effect_with}

-- it gives a typed expression, or fits everywhere, and so much is found after it; or it is refused
pub data Answer : Type 0 where
  gives : Option TypedExpr → Found → Answer
  refused : Refusal → Answer

-- what the code says: by what it made, or by a refusal; running out of memory says nothing
abbrev pub Says : {T A : Type 0} → Result T Stop → (T → A) → (Refusal → A) → (A → Type 0) → Type 0
Says (Ok x) made refuse P = P (made x)
Says (Err stop) made refuse P = IfRefused stop (λ refusal. P (refuse refusal))

-- with a plain read or write
abbrev pub with_access : Found → Rpl → Access → Found
with_access found rpl how = record found { effects = added found.effects (access_to rpl how) }

-- with a read or a write through the part of a number
abbrev pub with_part_use : Found → ℕ → Rpl → Access → Found
with_part_use found view rpl how = record found { uses = found.uses ++ part_access view rpl how ∷ [] }

-- with the effects of a summary, region arguments put in
abbrev pub with_summary : Found → List Effect → List Rpl → Found
with_summary found summary args = record found { effects = gathered found.effects (map (effect_with args) summary) }

-- with what a call of a method or a constructor does, region arguments put in: the effects of its summary, and whether an
-- nd construct is reached through it
abbrev pub with_call : Table → Found → MethodRow → List Rpl → Found
with_call table found row args = record (with_summary found row.summary args) { reaches_nd = found.reaches_nd || is_forking table row.id }

-- a read of something at a place, where it may be read
abbrev pub read : Bool → TypedExpr → Rpl → Place → Found → Answer
read true e rpl place found = gives (Some e) (with_access found rpl Read)
read false e rpl place found = refused (fault kind.PartialWrite place)

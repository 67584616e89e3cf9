-- An array that is made.
use Rattle.std.proofs.Common.{◌≡◌, ◌∙◌, ℕ, ℤ, pos, List, sym, ap, rules, Bool, false, cond}
use Rattle.lang_base.specs.declared.place.Place.{Place}
use Rattle.lang_base.specs.declared.region.Rpl.{Rpl}
use Rattle.lang_base.specs.declared.ty.Ty.{Ty, the_lemmas}
use Rattle.lang_base.specs.declared.ty.Ty.TheVariants as kind
use Rattle.lang_base.specs.declared.value.Trap.TheVariants as trap
use Rattle.lang_base.specs.Types.{PlainType, array, plain_type}
use Rattle.lang_meaning.specs.Values.{Value, An_array, Region}
use Rattle.lang_meaning.specs.Actions.{Frame, New}
use Rattle.lang_meaning.specs.Core.{Act, Traps, run}
use Rattle.lang_meaning.specs.Counts.{name_made}
use Rattle.lang_meaning.specs.Elision.{LocalRegion, in_order, Store, sequential, answer, after}
use Rattle.lang_meaning.specs.Expressions.{gives, first_of, made_array}
use Rattle.lang_meaning.specs.Regions.{around, concrete, is_long}
use Rattle.exec_walker.specs.Walk.{Level, Waiting, At, lands}

plain_array : (elem : Ty) (rpl : Rpl) (named : Bool) → plain_type (kind.Array elem rpl named) ≡ array (plain_type elem) rpl named
plain_array elem rpl named = search (rules, the_lemmas)

pub at_array : (t elem : Ty) (rpl : Rpl) (named : Bool) → t ≡ kind.Array elem rpl named → plain_type t ≡ array (plain_type elem) rpl named
at_array t elem rpl named is = ap plain_type is ∙ plain_array elem rpl named

module _ (g : Level) (push : Value ℕ → List (Value ℕ)) (ws : List Waiting) (at : Place) (f : Frame ℕ LocalRegion) (w : Store) where
  pub array_made : (t elem : PlainType) (a : Rpl) (named : Bool) (i : ℤ) (k : ℕ) (r : Region LocalRegion) (v u : Value ℕ)
      → t ≡ array elem a named → i ≡ pos k → r ≡ concrete in_order (around f) a → v ≡ first_of elem → is_long r ≡ false
      → u ≡ name_made {M = LocalRegion} (answer w.heap (New (An_array r k v) false))
      → At (record g { operands = push u; frame = f }) ws (after (New (An_array r k v) false) w) ≡ lands g push ws (run sequential (made_array in_order at t i f) w)
  array_made t elem a named i k r v u type len region first short name =
      ap (λ y. At (record g { operands = push y; frame = f }) ws (after (New (An_array r k v) false) w)) name
      ∙ ap (λ b. lands g push ws (run sequential (cond b (Traps trap.Stack at) (Act (New (An_array r k v) false) (λ x. gives (name_made x) f))) w)) (sym short)
      ∙ ap (λ y. lands g push ws (run sequential (cond (is_long y) (Traps trap.Stack at) (Act (New (An_array y k v) false) (λ x. gives (name_made x) f))) w)) region
      ∙ ap (λ y. lands g push ws (run sequential (cond (is_long (concrete in_order (around f) a)) (Traps trap.Stack at)
      (Act (New (An_array (concrete in_order (around f) a) k y) false) (λ x. gives (name_made x) f))) w)) first
      ∙ ap (λ j. lands g push ws (run sequential (made_array in_order at (array elem a named) j f) w)) (sym len)
      ∙ ap (λ y. lands g push ws (run sequential (made_array in_order at y i f) w)) (sym type)

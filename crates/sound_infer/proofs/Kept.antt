-- The members of a program with its inferred summaries.
use Rattle.std.proofs.Common.{◌≡◌, ◌∙◌, ℕ, false, List, [], ◌∷◌, map, Option, Some, None, refl, ap, sym, subst, slice_get}
use Rattle.std.specs.Prelude.{All}
use Rattle.std.specs.Option.{option_map}
use Rattle.std.proofs.lemmas.List.Elements.{All-head, All-tail, All-cons, All-nil}
use Rattle.std.proofs.lemmas.Option.{none-some, slice_get-map}
use Rattle.lang_base.specs.declared.effect.Access.TheVariants.{Read}
use Rattle.lang_base.specs.declared.effect.Effect.{Effect}
use Rattle.lang_base.specs.declared.region.Rpl.{Rpl}
use Rattle.lang_typed.specs.Plain.{PlainProgram, PlainClass, PlainMember, TypedStmts}
use Rattle.lang_typed.specs.Scope.{class_at, member_at}
use Rattle.lang_typed.specs.Table.{body_scope}
use Rattle.body_infer.specs.declared.kept.Kept.{Kept}
use Rattle.body_infer.specs.declared.kept.Kept.TheVariants as kept
use Rattle.body_infer.specs.Kept.{Keeping, summary_kept, members_kept, program_kept}
use Rattle.body_infer.proofs.Calling.{kept_at, members_at}
use Rattle.body_infer.proofs.Covering.{all_whole, whole_program, no_more_than_whole}
use Rattle.body_infer.proofs.Growing.{Grows}
use Rattle.body_infer.proofs.Passing.{grown}
use Rattle.body_infer.proofs.Same.{all_said}
use Rattle.sound_infer.specs.Laws.{entered_all, member_entered}

-- by what is kept of its summaries a program does less
pub kept_grows : (P : PlainProgram) (S : Keeping) → Grows (program_kept S P) P
kept_grows P S = subst (Grows (program_kept S P)) (whole_program P) (grown P S (all_whole P) (all_said kept.Whole P.members) (no_more_than_whole P S))

-- what is kept of a member, and then its body
abbrev pub with_kept : List Kept → PlainMember → PlainMember
with_kept ks m = record m { summary = summary_kept ks m.summary }

abbrev pub body_entered : Keeping → PlainProgram → PlainClass → PlainMember → TypedStmts
body_entered S P k m = entered_all (program_kept S P) (body_scope k (λ x. false) 0 m) m.body

abbrev pub member_inferred : Keeping → PlainProgram → PlainClass → List Kept → PlainMember → PlainMember
member_inferred S P k ks m = record m { summary = summary_kept ks m.summary; body = body_entered S P k m }

pub kept_is : (P : PlainProgram) (S : Keeping) (n : ℕ) (m : PlainMember) (ks : List Kept) → member_at P n ≡ Some m → slice_get S n ≡ Some ks → slice_get (members_kept S P.members) n ≡ Some (with_kept ks m)
kept_is P S n m ks is said = members_at S P.members n ∙ ap (λ o. kept_at o (slice_get P.members n)) said ∙ ap (kept_at (Some ks)) is

abbrev pub members_inferred : Keeping → PlainProgram → List PlainMember
members_inferred S P = map (λ m. member_entered (program_kept S P) (class_at P m.class) m) (members_kept S P.members)

pub inferred_is : (P : PlainProgram) (S : Keeping) (n : ℕ) (m : PlainMember) (k : PlainClass) (ks : List Kept) → member_at P n ≡ Some m → class_at P m.class ≡ Some k → slice_get S n ≡ Some ks →
    slice_get (members_inferred S P) n ≡ Some (member_inferred S P k ks m)
inferred_is P S n m k ks is of said =
    slice_get-map (λ q. member_entered (program_kept S P) (class_at P q.class) q) (members_kept S P.members) n
    ∙ ap (option_map (λ q. member_entered (program_kept S P) (class_at P q.class) q)) (kept_is P S n m ks is said)
    ∙ ap (λ o. Some (member_entered (program_kept S P) o (with_kept ks m))) of

-- each member that is there was there
pub inferred_from : (P : PlainProgram) (S : Keeping) (n : ℕ) (q : PlainMember) → slice_get (members_inferred S P) n ≡ Some q → (m : PlainMember) × (member_at P n ≡ Some m)
inferred_from P S n q is = by (slice_get P.members n) refl
  where
    none : (o : Option (List Kept)) → kept_at o None ≡ None
    none None = refl
    none (Some ks) = refl

    by : (o : Option PlainMember) → slice_get P.members n ≡ o → (m : PlainMember) × (member_at P n ≡ Some m)
    by (Some m) e = (m, e)
    by None e =
        let gone : slice_get (members_kept S P.members) n ≡ None = members_at S P.members n ∙ ap (kept_at (slice_get S n)) e ∙ none (slice_get S n) in
        absurd (none-some q (ap (option_map (λ m. member_entered (program_kept S P) (class_at P m.class) m)) (sym gone) ∙ sym (slice_get-map (λ m. member_entered (program_kept S P) (class_at P m.class) m) (members_kept S P.members) n) ∙ is))

-- the items that are kept have the places of written ones
pub places_kept : (R : Rpl → Type 0) (ks : List Kept) (es : List Effect) → All (λ e. R e.rpl) es → All (λ e. R e.rpl) (summary_kept ks es)
places_kept R [] es h = All-nil (λ e. R e.rpl)
places_kept R (k ∷ ks) [] h = All-nil (λ e. R e.rpl)
places_kept R (kept.Nothing ∷ ks) (e ∷ es) h = places_kept R ks es (All-tail (λ e. R e.rpl) e es h)
places_kept R (kept.Read ∷ ks) (e ∷ es) h =
    All-cons (λ e. R e.rpl) (record e { access = Read }) (summary_kept ks es) (All-head (λ e. R e.rpl) e es h) (places_kept R ks es (All-tail (λ e. R e.rpl) e es h))
places_kept R (kept.Whole ∷ ks) (e ∷ es) h = All-cons (λ e. R e.rpl) e (summary_kept ks es) (All-head (λ e. R e.rpl) e es h) (places_kept R ks es (All-tail (λ e. R e.rpl) e es h))

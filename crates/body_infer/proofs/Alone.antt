-- Two least keepings leave the same summaries.
use Rattle.std.proofs.Common.{◌≡◌, ◌≤◌, ℕ, suc, List, [], ◌∷◌, ◌++◌, map, length, Some, slice_get, refl, ap, ap₂, sym, arith}
use Rattle.lang_base.specs.declared.effect.Access.{Access}
use Rattle.lang_base.specs.declared.effect.Access.TheVariants.{Read, Write}
use Rattle.lang_base.specs.declared.effect.Effect.{Effect}
use Rattle.lang_typed.specs.Plain.{PlainMember, PlainProgram}
use Rattle.body_infer.specs.declared.kept.Kept.{Kept}
use Rattle.body_infer.specs.declared.kept.Kept.TheVariants as kept
use Rattle.body_infer.specs.PostFixpoint.{IsInferred}
use Rattle.body_infer.specs.Kept.{Keeping, item_kept, members_kept, program_kept, strength_kept, strength_of, summary_kept}

none_of_some : (a : Access) → 0 ≡ strength_of a → ⊥
none_of_some Read h = absurd (omega arith)
none_of_some Write h = absurd (omega arith)

read_of_read : (e : Effect) (a : Access) → e.access ≡ a → 1 ≡ strength_of a → item_kept kept.Read e ≡ item_kept kept.Whole e
read_of_read e Read is h = ap (λ a. record e { access = a } ∷ []) (sym is)
read_of_read e Write is h = absurd (omega arith)

-- of an item of which equally much is kept
same_item : (k l : Kept) (e : Effect) → strength_kept k e ≡ strength_kept l e → item_kept k e ≡ item_kept l e
same_item kept.Nothing kept.Nothing e h = refl
same_item kept.Nothing kept.Read e h = absurd (omega arith)
same_item kept.Nothing kept.Whole e h = absurd (none_of_some e.access h)
same_item kept.Read kept.Nothing e h = absurd (omega arith)
same_item kept.Read kept.Read e h = refl
same_item kept.Read kept.Whole e h = read_of_read e e.access refl h
same_item kept.Whole kept.Nothing e h = absurd (none_of_some e.access (sym h))
same_item kept.Whole kept.Read e h = sym (read_of_read e e.access refl (sym h))
same_item kept.Whole kept.Whole e h = refl

abbrev AreAsStrong : List Effect → List Kept → List Kept → Type 0
AreAsStrong es ks ls = (i : ℕ) (item : Effect) (k l : Kept) → slice_get es i ≡ Some item → slice_get ks i ≡ Some k → slice_get ls i ≡ Some l → strength_kept k item ≡ strength_kept l item

same_summary : (es : List Effect) (ks ls : List Kept) → length ks ≡ length es → length ls ≡ length es → AreAsStrong es ks ls → summary_kept ks es ≡ summary_kept ls es
same_summary [] [] [] many others strong = refl
same_summary [] [] (l ∷ ls) many others strong = absurd (omega arith)
same_summary [] (k ∷ ks) ls many others strong = absurd (omega arith)
same_summary (e ∷ es) [] ls many others strong = absurd (omega arith)
same_summary (e ∷ es) (k ∷ ks) [] many others strong = absurd (omega arith)
same_summary (e ∷ es) (k ∷ ks) (l ∷ ls) many others strong =
    ap₂ (λ x y. x ++ y) (same_item k l e (strong 0 e k l refl refl refl)) (same_summary es ks ls (omega arith) (omega arith) (λ i. strong (suc i)))

abbrev AllAsStrong : List PlainMember → Keeping → Keeping → Type 0
AllAsStrong ms S T = (n : ℕ) (m : PlainMember) (ks ls : List Kept) → slice_get ms n ≡ Some m → slice_get S n ≡ Some ks → slice_get T n ≡ Some ls → AreAsStrong m.summary ks ls

abbrev AreSaid : List PlainMember → Keeping → Type 0
AreSaid ms S = map length S ≡ map (λ m. length m.summary) ms

same_members : (ms : List PlainMember) (S T : Keeping) → AreSaid ms S → AreSaid ms T → AllAsStrong ms S T → members_kept S ms ≡ members_kept T ms
same_members [] [] [] said others strong = refl
same_members [] [] (ls ∷ T) said others strong = absurd (cc others)
same_members [] (ks ∷ S) T said others strong = absurd (cc said)
same_members (m ∷ ms) [] T said others strong = absurd (cc said)
same_members (m ∷ ms) (ks ∷ S) [] said others strong = absurd (cc others)
same_members (m ∷ ms) (ks ∷ S) (ls ∷ T) said others strong =
    let one : length ks ≡ length m.summary = cc said in
    let other : length ls ≡ length m.summary = cc others in
    let rest : AreSaid ms S = cc said in
    let rest_other : AreSaid ms T = cc others in
    ap₂ (λ es more. record m { summary = es } ∷ more) (same_summary m.summary ks ls one other (strong 0 m ks ls refl refl refl))
    (same_members ms S T rest rest_other (λ n. strong (suc n)))

both_ways : (a b : ℕ) → a ≤ b → b ≤ a → a ≡ b
both_ways a b h k = omega (arith, h, k)

pub one_inferred : (P : PlainProgram) (S T : Keeping) → IsInferred P S → IsInferred P T → program_kept S P ≡ program_kept T P
one_inferred P S T s t =
    ap (λ members. record P { members = members }) (same_members P.members S T s.says t.says
    (λ n m ks ls there of_first of_second i item k l at_item at_first at_second.
    both_ways (strength_kept k item) (strength_kept l item) (s.least T t.says t.post_fixpoint n i m ks ls item k l there of_first of_second at_item at_first at_second)
    (t.least S s.says s.post_fixpoint n i m ls ks item l k there of_second of_first at_item at_second at_first)))

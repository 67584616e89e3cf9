-- Of how many items something is said, and what is kept at first.
use Rattle.std.proofs.Common.{◌≡◌, ◌≤◌, ◌∙◌, ℕ, zero, suc, List, [], ◌∷◌, ◌++◌, drop, map, replicate, length, Some, refl, ap, sym, slice_get, slice_set, arith}
use Rattle.std.proofs.lemmas.List.{append-nil, drop_all, length-map}
use Rattle.std.proofs.lemmas.Option.{none-some, same_Some}
use Rattle.lang_base.specs.declared.effect.Effect.{Effect}
use Rattle.lang_typed.specs.declared.program.Member.{Member}
use Rattle.lang_typed.specs.Plain.{PlainProgram, PlainMember, plain_member}
use Rattle.body_infer.specs.declared.kept.Kept.{Kept}
use Rattle.body_infer.specs.declared.kept.Kept.TheVariants as kept
use Rattle.body_infer.specs.Kept.{Keeping, SaysOfEach, strength_kept}
use Rattle.body_infer.specs.PostFixpoint.{KeepsNoMore}
use Rattle.body_infer.specs.Asked.{nothing_of, nothing_kept}

-- one list in the place of another of its length
pub set_alike : (S : List (List Kept)) (at : ℕ) (old new : List Kept) → slice_get S at ≡ Some old → length new ≡ length old → map length (slice_set S at new) ≡ map length S
set_alike [] at old new e h = cc
set_alike (first ∷ rest) zero old new e h = cc
set_alike (first ∷ rest) (suc at) old new e h = ap (λ more. length first ∷ more) (set_alike rest at old new e h)

pub nothing_of_each : (es : List Effect) → replicate (length es) kept.Nothing ≡ nothing_of es
nothing_of_each [] = refl
nothing_of_each (e ∷ es) = ap (λ rest. kept.Nothing ∷ rest) (nothing_of_each es)

plain_nothing : (ms : List Member) → map (λ m. nothing_of m.summary) (map plain_member ms) ≡ map (λ m. nothing_of m.summary) ms
plain_nothing [] = refl
plain_nothing (m ∷ ms) = ap (λ rest. nothing_of m.summary ∷ rest) (plain_nothing ms)

-- what was kept of the first members is kept of all, where none is left
pub nothing_of_all : (all : Keeping) (at : ℕ) (ms : List Member) → all ++ map (λ m. nothing_of m.summary) (drop at ms) ≡ map (λ m. nothing_of m.summary) ms → length ms ≤ at →
    all ≡ map (λ m. nothing_of m.summary) (map plain_member ms)
nothing_of_all all at ms made none =
    sym (append-nil all) ∙ ap (λ left. all ++ map (λ m. nothing_of m.summary) left) (sym (drop_all at ms none)) ∙ made ∙ sym (plain_nothing ms)

-- at first something is said of each item, and no more is kept than anything keeps

pub all_said : (k : Kept) (ms : List PlainMember) → map length (map (λ m. map (λ e. k) m.summary) ms) ≡ map (λ m. length m.summary) ms
all_said k [] = refl
all_said k (m ∷ ms) = ap (λ n. n ∷ map length (map (λ m. map (λ e. k) m.summary) ms)) (length-map m.summary (λ e. k)) ∙ ap (λ rest. length m.summary ∷ rest) (all_said k ms)

pub nothing_says : (P : PlainProgram) → SaysOfEach P (nothing_kept P)
nothing_says P = all_said kept.Nothing P.members

pub mapped_from : {A B : Type 0} (f : A → B) (xs : List A) (i : ℕ) (y : B) → slice_get (map f xs) i ≡ Some y → (x : A) × (y ≡ f x)
mapped_from f [] i y h = absurd (none-some y h)
mapped_from f (x ∷ xs) zero y h = (x, sym (same_Some (f x) y h))
mapped_from f (x ∷ xs) (suc i) y h = mapped_from f xs i y h

pub nothing_least : (P : PlainProgram) (T : Keeping) → KeepsNoMore P (nothing_kept P) T
nothing_least P T = λ n i m ks ls item k l is a b c d e.
    let of = mapped_from (λ m. nothing_of m.summary) P.members n ks a in
    let at = mapped_from (λ e. kept.Nothing) of.0.summary i k (ap (λ x. slice_get x i) (sym of.1) ∙ d) in
    let none : strength_kept k item ≡ 0 = ap (λ x. strength_kept x item) at.1 in
    omega arith

-- One statement more of a block, for one name, and the names of a set that had none.
use Rattle.std.proofs.Common.{◌≡◌, Bool, true, false, not, ◌&&◌, ◌||◌, refl, IsTrue, Contains, ℕ, List, [], ◌↔◌, sym, ◌∙◌, ap, subst}
use Rattle.std.specs.BTreeSet.{BTreeSet}
use Rattle.std.proofs.lemmas.Cmp.{nat_cmp_total}
use Rattle.std.proofs.lemmas.Map.Lookups.{exact_unsigned}
use Rattle.std.proofs.lemmas.Map.Views.{btree_set_contains_iff}
use Rattle.body_locals.specs.Gains.{has, Gains}

-- in the scope before or declared; read before or by the statement; read after it
pub block_step : (inside read reported declared rest : Bool) → ((read || (not inside && reported)) || (not (inside || declared) && rest)) ≡ (read || (not inside && (reported || (not declared && rest))))
block_step inside true reported declared rest = refl
block_step true false reported declared rest = refl
block_step false false true declared rest = refl
block_step false false false true rest = refl
block_step false false false false rest = refl

-- one name less in the scope
pub leave_step : (inside first rest : Bool) → ((inside && not first) && not rest) ≡ (inside && not (first || rest))
leave_step false first rest = refl
leave_step true true rest = refl
leave_step true false rest = refl

has_none : (names : BTreeSet ℕ) → names.keys ≡ [] → (x : ℕ) → has names x ≡ false
has_none names none x = ap (λ (ks : List ℕ). has (record { keys = ks }) x) none

plain_gain : (after before inside reported : Bool) → after ≡ (before || (not inside && reported)) → before ≡ false → inside ≡ false → after ≡ reported
plain_gain after before inside reported gains none nothing =
    gains ∙ (ap (λ (b : Bool). b || (not inside && reported)) none ∙ ap (λ (b : Bool). not b && reported) nothing)

-- the names of a set that had none are those that are asked for
pub reported_listed : (inside before after : BTreeSet ℕ) (reported : ℕ → Bool) (list : List ℕ) → inside.keys ≡ [] → before.keys ≡ [] → Gains inside before after reported → list ≡ after.keys → (x : ℕ) → IsTrue (reported x) ↔ Contains list x
reported_listed inside before after reported list nothing none gains same x =
    let is : has after x ≡ reported x = plain_gain (has after x) (has before x) (has inside x) (reported x) (gains x) (has_none before none x) (has_none inside nothing x) in
    let iff : IsTrue (has after x) ↔ Contains after.keys x = btree_set_contains_iff nat_cmp_total exact_unsigned after x in
    subst (λ (ks : List ℕ). IsTrue (reported x) ↔ Contains ks x) (sym same) (subst (λ (b : Bool). IsTrue b ↔ Contains after.keys x) is iff)

-- An effect that interferes with a noted one is met by a search.
use Rattle.std.proofs.Common.{◌≡◌, ℕ, Bool, true, false, not, ◌&&◌, ◌||◌, ◌==◌, List, [], ◌∷◌, refl, sym, subst, ◌∙◌, inl, inr, ◌⊎◌, ⊎_elim, MatchBool, Option, Some, None, ◌<◌, ◌≤◌, length, drop, arith, MatchOption}
use Rattle.std.proofs.lemmas.List.{drop_all}
use Rattle.exec_locks.proofs.Found.{Sound}
use Rattle.std.proofs.lemmas.Bool.{and_parts, false≢true}
use Rattle.std.specs.FinMap.{get}
use Rattle.lang_base.specs.declared.elems.Elem.{Elem}
use Rattle.lang_base.specs.declared.effect.Access.{Access}
use Rattle.lang_base.specs.declared.effect.Access.TheVariants.{Read, Write}
use Rattle.lang_base.specs.declared.effect.Effect.{Effect}
use Rattle.lang_base.specs.declared.region.Head.{Head}
use Rattle.lang_base.specs.declared.region.Head.TheVariants.{Root}
use Rattle.lang_base.specs.Regions.{same_head}
use Rattle.lang_base.specs.Apart.{distinct, apart_front, apart_from_left, apart_by_length, apart_from_right, apart_by_some, apart}
use Rattle.lang_base.specs.Effects.{interferes, is_write}
use Rattle.lang_base.specs.Matching.{is_concrete}
use Rattle.region_paths.proofs.ConcreteElems.{concrete-no_star, same_or_distinct}
use Rattle.region_paths.proofs.Lists.{front-step}
use Rattle.exec_locks.specs.declared.index.Index.{Index}
use Rattle.exec_locks.specs.declared.standing.Standing.{Standing}
use Rattle.exec_locks.specs.declared.standing.Standing.TheVariants.{Opener, Adopted}
use Rattle.exec_locks.specs.Index.{Sets, has, first_number, mixed, NotedFrom, Met, NotedBy, AllNoted, MetBy, MetAny, AtMost, IsFound, IsIndexed}
use Rattle.exec_locks.specs.Locks.{Standings, AllRoot, some_interferes, lists_interfere, block_interferes, opened_for, hinders, IsFree, IsLeastHolder}

or_false : (a b : Bool) → (a || b) ≡ false → (a ≡ false) × (b ≡ false)
or_false true b is = cc
or_false false b is = (refl, is)

-- of two fixed elements at the front of paths that aren't apart
front_same : (x y : Elem) (a b : List Elem) → is_concrete x ≡ true → is_concrete y ≡ true → apart_front (x ∷ a) (y ∷ b) ≡ false
    → (x ≡ y) × (apart_front a b ≡ false)
front_same x y a b h k near =
    let parts = or_false (distinct x y) (apart_front a b) (sym (front-step x y a b (concrete-no_star x h) (concrete-no_star y k)) ∙ near) in
    ⊎_elim {C = (x ≡ y) × (apart_front a b ≡ false)} (λ same. (same, parts.1)) (λ other. absurd (false≢true (sym parts.0 ∙ other))) (same_or_distinct x y h k)

module _ (under ending : Sets) (q : ℕ) where
  fixed_noted : (n : ℕ) (y : Elem) (b : List Elem) (c : Bool) → is_concrete y ≡ c
      → MatchBool c ((has under n q ≡ true) × NotedFrom under ending q (mixed n y) b) (has ending n q ≡ true)
      → ((is_concrete y ≡ true) × (has under n q ≡ true) × NotedFrom under ending q (mixed n y) b) ⊎ (has ending n q ≡ true)
  fixed_noted n y b true is noted = inl (is, noted.0, noted.1)
  fixed_noted n y b false is noted = inr noted

  met_match : (n : ℕ) (x : Elem) (a : List Elem) (c : Bool) → is_concrete x ≡ c → (c ≡ true → Met under ending q (mixed n x) a) → has under n q ≡ true
      → MatchBool c (Met under ending q (mixed n x) a) (has under n q ≡ true)
  met_match n x a true is deeper there = deeper refl
  met_match n x a false is deeper there = there

  -- paths that aren't apart from the left: one begins with the fixed front of the other
  pub met : (n : ℕ) (a b : List Elem) → apart_front a b ≡ false → NotedFrom under ending q n b → Met under ending q n a
  met n [] [] near noted = inl noted
  met n [] (y ∷ b) near noted =
      ⊎_elim {C = Met under ending q n []} (λ fixed. inr fixed.1) (λ here. inl here) (fixed_noted n y b (is_concrete y) refl noted)
  met n (x ∷ a) [] near noted = inl noted
  met n (x ∷ a) (y ∷ b) near noted =
      ⊎_elim {C = Met under ending q n (x ∷ a)}
      (λ fixed. inr (met_match n x a (is_concrete x) refl
      (λ h. let parts = front_same x y a b h fixed.0 near in
      met (mixed n x) a b parts.1 (subst (λ z. NotedFrom under ending q (mixed n z) b) (sym parts.0) fixed.2)) fixed.1))
      (λ here. inl here) (fixed_noted n y b (is_concrete y) refl noted)

not_true : (b : Bool) → not b ≡ true → b ≡ false
not_true true is = cc
not_true false is = refl

near_front : (h k : Head) (a b : List Elem) → h ≡ Root → k ≡ Root → (same_head h k && apart_front a b) ≡ false → apart_front a b ≡ false
near_front h k a b hr kr is = subst (λ g. (same_head Root g && apart_front a b) ≡ false) kr (subst (λ g. (same_head g k && apart_front a b) ≡ false) hr is)

-- effects that interfere: one is a write, and their paths aren't apart from the left
interfering : (e f : Effect) → e.rpl.head ≡ Root → f.rpl.head ≡ Root → interferes [] e f ≡ true
    → ((is_write e.access || is_write f.access) ≡ true) × (apart_front e.rpl.elems f.rpl.elems ≡ false)
unfolding interferes apart
interfering e f er fr is =
    let parts = and_parts (is_write e.access || is_write f.access) (not (apart [] e.rpl f.rpl)) is in
    let near = not_true (apart [] e.rpl f.rpl) parts.1 in (
      parts.0,
      near_front e.rpl.head f.rpl.head e.rpl.elems f.rpl.elems er fr
          (or_false (apart_from_left e.rpl f.rpl) (apart_by_length e.rpl f.rpl) (or_false (apart_from_left e.rpl f.rpl || apart_by_length e.rpl f.rpl)
          (apart_from_right e.rpl f.rpl)
          (or_false (apart_from_left e.rpl f.rpl || apart_by_length e.rpl f.rpl || apart_from_right e.rpl f.rpl) (apart_by_some [] e.rpl f.rpl) near).0).0).0,
    )

module _ (reads writes : Index) (q : ℕ) where
  by_access : (a b : Access) (xs ys : List Elem) → (is_write a || is_write b) ≡ true → apart_front xs ys ≡ false → NotedBy reads writes q b ys
      → MetBy reads writes q a xs
  by_access Read Read xs ys one near noted = cc
  by_access Read Write xs ys one near noted = met writes.under writes.ending q first_number xs ys near noted
  by_access Write Read xs ys one near noted = inl (met reads.under reads.ending q first_number xs ys near noted)
  by_access Write Write xs ys one near noted = inr (met writes.under writes.ending q first_number xs ys near noted)

  one_met : (e f : Effect) → e.rpl.head ≡ Root → f.rpl.head ≡ Root → NotedBy reads writes q f.access f.rpl.elems → interferes [] e f ≡ true
      → MetBy reads writes q e.access e.rpl.elems
  one_met e f er fr noted is = let parts = interfering e f er fr is in by_access e.access f.access e.rpl.elems f.rpl.elems parts.0 parts.1 noted

  either : (c d : Bool) → (c || d) ≡ true → (c ≡ true) ⊎ (d ≡ true)
  either true d is = inl refl
  either false d is = inr is

  some_met : (e : Effect) (fs : List Effect) → e.rpl.head ≡ Root → AllRoot fs → AllNoted reads writes q fs → some_interferes e fs ≡ true
      → MetBy reads writes q e.access e.rpl.elems
  some_met e [] er roots noted is = cc
  some_met e (f ∷ fs) er roots noted is =
      ⊎_elim {C = MetBy reads writes q e.access e.rpl.elems} (one_met e f er roots.0 noted.0) (some_met e fs er roots.1 noted.1) (either (interferes [] e f)
      (some_interferes e fs) is)

  any_met : (es fs : List Effect) → AllRoot es → AllRoot fs → AllNoted reads writes q fs → lists_interfere es fs ≡ true → MetAny reads writes q es
  any_met [] fs roots others noted is = cc
  any_met (e ∷ es) fs roots others noted is =
      ⊎_elim {C = MetAny reads writes q (e ∷ es)} (λ here. inl (some_met e fs roots.0 others noted here))
      (λ later. inr (any_met es fs roots.1 others noted later))
      (either (some_interferes e fs) (lists_interfere es fs) is)

  block_met : (o : Option Standing) (wants : List Effect) → AllRoot wants → IsFound reads writes q o → block_interferes o wants ≡ true
      → MetAny reads writes q wants
  block_met None wants roots found is = cc
  block_met (Some (Opener effects depth)) wants roots found is = any_met wants effects roots found.0 found.1 is
  block_met (Some (Adopted opener depth)) wants roots found is = cc

-- whoever hinders is met
pub hindering_met : (reads writes : Index) (locks : Standings) (task q : ℕ) (wants : List Effect) → IsIndexed reads writes locks → AllRoot wants
    → hinders locks task wants q ≡ true → MetAny reads writes q wants
hindering_met reads writes locks task q wants indexed roots is =
    block_met reads writes q (get locks q) wants roots (indexed q) (and_parts (not (q == task) && not (opened_for (get locks task) q))
    (block_interferes (get locks q) wants) is).1

free_at : (b : Bool) (q : ℕ) → (b ≡ true → AtMost None q) → b ≡ false
free_at true q never = absurd (never refl)
free_at false q never = refl

less_at : (b : Bool) (h q : ℕ) → q < h → (b ≡ true → AtMost (Some h) q) → b ≡ false
less_at true h q lt most = absurd (omega (arith, most refl))
less_at false h q lt most = refl

-- who hinders and is no greater than any that does is the least
pub concluded : (locks : Standings) (task : ℕ) (wants : List Effect) (least : Option ℕ) → Sound (hinders locks task wants) least
    → ((q : ℕ) → hinders locks task wants q ≡ true → AtMost least q) → MatchOption least (IsFree locks task wants) (IsLeastHolder locks task wants)
concluded locks task wants None sound most = λ q. free_at (hinders locks task wants q) q (most q)
concluded locks task wants (Some h) sound most = record { itself = sound; least = λ q lt. less_at (hinders locks task wants q) h q lt (most q) }

pub all_looked_at : (reads writes : Index) (locks : Standings) (task q i : ℕ) (wants : List Effect) (least : Option ℕ) → IsIndexed reads writes locks
    → AllRoot wants → length wants ≤ i
    → (MetAny reads writes q wants → hinders locks task wants q ≡ true → AtMost least q ⊎ MetAny reads writes q (drop i wants))
    → hinders locks task wants q ≡ true → AtMost least q
all_looked_at reads writes locks task q i wants least indexed roots past reach is =
    ⊎_elim {C = AtMost least q} (λ le. le) (λ more. absurd (subst (MetAny reads writes q) (drop_all i wants past) more))
    (reach (hindering_met reads writes locks task q wants indexed roots is) is)

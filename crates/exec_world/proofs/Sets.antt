-- Sets of numbers as words, through a change of one word, and their last numbers.
use Rattle.std.proofs.Common.{arith, ◌≡◌, ◌≢◌, ◌⊎◌, inl, inr, ◌<◌, ◌≤◌, ◌+◌, ◌-◌, ◌*◌, ◌/◌, ◌%◌, ℕ, refl, sym, ap, subst, ◌∙◌, Option, Some, None, IfSome, cond, Result, Ok, Err, OnOk, OnErr}
use Rattle.std.proofs.lemmas.Bool.{cases_eq, cases_lt}
use Rattle.std.specs.Ordering.{nat_cmp, eq_by_cmp}
use Rattle.std.specs.Cmp.{nat_cmp_total}
use Rattle.std.specs.FinMap.{empty, get, insert, remove, get-empty, get-remove}
use Rattle.std.specs.Int.{bit_at}
use Rattle.std.proofs.lemmas.Nat.Bits.{bit_at-zero}
use Rattle.exec_tasks.specs.Numbered.{IsLastBelow as IsLastKey, NoneBelow as NoKeyBelow}
use Rattle.exec_tasks.proofs.Numbers.{itself, other_number, get_inserted, get_beside}
use Rattle.exec_world.proofs.Maps.{each_put}
use Rattle.exec_world.specs.Words.{InWord, Words, InSome, Has, IsWord, IsBounded, IsLastIn, IsLastUpTo, NoneUpTo, With, Without}

module _ (old new : Words) (n : ℕ) (others : (p : ℕ) → p ≢ n / 64 → get new p ≡ get old p) where
  beside : ((k : ℕ) → k < 64 → k ≢ n % 64 → InSome (get old (n / 64)) k → InSome (get new (n / 64)) k) → (q : ℕ) → q ≢ n → Has old q → Has new q
  beside here q apart has = by_page (cases_eq (q / 64) (n / 64))
    where
      by_page : (q / 64 ≡ n / 64) ⊎ (q / 64 ≢ n / 64) → Has new q
      by_page (inl same) =
          subst (λ p. InSome (get new p) (q % 64)) (sym same)
          (here (q % 64) (omega arith) (λ e. apart (omega (arith, same, e))) (subst (λ p. InSome (get old p) (q % 64)) same has))
      by_page (inr differ) = subst (λ o. InSome o (q % 64)) (sym (others (q / 64) differ)) has

-- another word in the place of one, or of none
module _ (old new : Words) (n : ℕ) (others : (p : ℕ) → p ≢ n / 64 → get new p ≡ get old p)
    (into : (k : ℕ) → k < 64 → k ≢ n % 64 → InSome (get old (n / 64)) k → InSome (get new (n / 64)) k)
    (back : (k : ℕ) → k < 64 → k ≢ n % 64 → InSome (get new (n / 64)) k → InSome (get old (n / 64)) k) where
  forwards : (q : ℕ) → q ≢ n → Has old q → Has new q
  forwards = beside old new n others into

  backwards : (q : ℕ) → q ≢ n → Has new q → Has old q
  backwards = beside new old n (λ p apart. sym (others p apart)) back

  with_it : InSome (get new (n / 64)) (n % 64) → With old new n
  with_it there = record { there = there; kept = λ q has. kept q has (cases_eq q n); others = backwards }
    where
      kept : (q : ℕ) → Has old q → (q ≡ n) ⊎ (q ≢ n) → Has new q
      kept q has (inl same) = subst (Has new) (sym same) there
      kept q has (inr apart) = forwards q apart has

  without_it : (InSome (get new (n / 64)) (n % 64) → ⊥) → Without old new n
  without_it gone = record { gone = gone; kept = forwards; others = λ q has. was q has (cases_eq q n) }
    where
      was : (q : ℕ) → Has new q → (q ≡ n) ⊎ (q ≢ n) → Has old q
      was q has (inl same) = absurd (gone (subst (Has new) same has))
      was q has (inr apart) = backwards q apart has

-- the same bits but one
abbrev pub OthersKept : ℕ → ℕ → ℕ → Type 0
OthersKept old new place = (k : ℕ) → k < 64 → k ≢ place → bit_at new (63 - k) ≡ bit_at old (63 - k)

module _ (words : Words) (n w v : ℕ) where
  -- a number more in a word that there is
  pub put_in : Some w ≡ get words (n / 64) → InWord v (n % 64) → OthersKept w v (n % 64) → With words (insert words (n / 64) v) n
  put_in is there kept =
      with_it words (insert words (n / 64) v) n (λ p apart. get_beside words (n / 64) p v apart)
      (λ k lt apart has. at_new k (kept k lt apart ∙ subst (λ o. InSome o k) (sym is) has))
      (λ k lt apart has. subst (λ o. InSome o k) is (sym (kept k lt apart) ∙ of_new k has))
      (at_new (n % 64) there)
    where
      at_new : (k : ℕ) → InWord v k → InSome (get (insert words (n / 64) v) (n / 64)) k
      at_new k has = subst (λ o. InSome o k) (sym (get_inserted words (n / 64) v)) has

      of_new : (k : ℕ) → InSome (get (insert words (n / 64) v) (n / 64)) k → InWord v k
      of_new k has = subst (λ o. InSome o k) (get_inserted words (n / 64) v) has

  -- a word of one number more
  pub put_first : get words (n / 64) ≡ None → InWord v (n % 64) → OthersKept 0 v (n % 64) → With words (insert words (n / 64) v) n
  put_first none there kept =
      with_it words (insert words (n / 64) v) n (λ p apart. get_beside words (n / 64) p v apart)
      (λ k lt apart has. absurd (subst (λ o. InSome o k) none has))
      (λ k lt apart has. absurd (zero_bit k (sym (kept k lt apart) ∙ subst (λ o. InSome o k) (get_inserted words (n / 64) v) has)))
      (subst (λ o. InSome o (n % 64)) (sym (get_inserted words (n / 64) v)) there)
    where
      zero_bit : (k : ℕ) → bit_at 0 (63 - k) ≡ 1 → ⊥
      zero_bit k e = let zeros = bit_at-zero (63 - k) in omega (arith, e, zeros)

  -- a number fewer in a word
  pub take_from : Some w ≡ get words (n / 64) → (InWord v (n % 64) → ⊥) → OthersKept w v (n % 64) → Without words (insert words (n / 64) v) n
  take_from is gone kept =
      without_it words (insert words (n / 64) v) n (λ p apart. get_beside words (n / 64) p v apart)
      (λ k lt apart has. subst (λ o. InSome o k) (sym (get_inserted words (n / 64) v)) (kept k lt apart ∙ subst (λ o. InSome o k) (sym is) has))
      (λ k lt apart has. subst (λ o. InSome o k) is (sym (kept k lt apart) ∙ subst (λ o. InSome o k) (get_inserted words (n / 64) v) has))
      (λ has. gone (subst (λ o. InSome o (n % 64)) (get_inserted words (n / 64) v) has))

  -- the last number of a word, which goes
  pub take_last : Some w ≡ get words (n / 64) → v ≡ 0 → OthersKept w v (n % 64) → Without words (remove (insert words (n / 64) v) (n / 64)) n
  take_last is empty kept =
      without_it words (remove (insert words (n / 64) v) (n / 64)) n
      (λ p apart. get-remove nat_cmp_total (insert words (n / 64) v) (n / 64) p
      ∙ ap (λ b. cond b None (get (insert words (n / 64) v) p)) (other_number p (n / 64) apart) ∙ get_beside words (n / 64) p v apart)
      (λ k lt apart has. absurd (zero_bit k (ap (λ m. bit_at m (63 - k)) (sym empty) ∙ kept k lt apart ∙ subst (λ o. InSome o k) (sym is) has)))
      (λ k lt apart has. absurd (subst (λ o. InSome o k) gone has))
      (λ has. subst (λ o. InSome o (n % 64)) gone has)
    where
      gone : get (remove (insert words (n / 64) v) (n / 64)) (n / 64) ≡ None
      gone =
          get-remove nat_cmp_total (insert words (n / 64) v) (n / 64) (n / 64)
          ∙ ap (λ b. cond b None (get (insert words (n / 64) v) (n / 64))) (itself (n / 64))

      zero_bit : (k : ℕ) → bit_at 0 (63 - k) ≡ 1 → ⊥
      zero_bit k e = let zeros = bit_at-zero (63 - k) in omega (arith, e, zeros)

abbrev pub AllFull : Words → Type 0
AllFull words = (p : ℕ) → IfSome (get words p) IsWord

pub full_put : (words : Words) (p v : ℕ) → AllFull words → IsWord v → AllFull (insert words p v)
full_put words p v full is = each_put (λ o. IfSome o IsWord) words p v full is

pub full_either : {E : Type 0} (old new : Words) (p v : ℕ) (r : Result (Unit {0}) E) → AllFull old → IsWord v → OnOk r (new ≡ insert old p v) → OnErr r (new ≡ old) → AllFull new
full_either old new p v (Ok x) full is put same = subst AllFull (sym put) (full_put old p v full is)
full_either old new p v (Err e) full is put same = subst AllFull (sym same) full

pub full_taken : (words : Words) (p v : ℕ) → AllFull words → AllFull (remove (insert words p v) p)
full_taken words p v full q = by_case (cases_eq q p)
  where
    by_case : (q ≡ p) ⊎ (q ≢ p) → IfSome (get (remove (insert words p v) p) q) IsWord
    by_case (inl same) =
        subst (λ o. IfSome o IsWord)
        (sym (get-remove nat_cmp_total (insert words p v) p q
        ∙ ap (λ b. cond b None (get (insert words p v) q)) (ap (λ n. eq_by_cmp nat_cmp n p) same ∙ itself p))) tt
    by_case (inr apart) =
        subst (λ o. IfSome o IsWord)
        (sym (get-remove nat_cmp_total (insert words p v) p q
        ∙ ap (λ b. cond b None (get (insert words p v) q)) (other_number q p apart) ∙ get_beside words p q v apart)) (full q)

-- the last number up to another, in its word
pub in_page : (words : Words) (most k : ℕ) → IsLastIn (get words (most / 64)) (most % 64) k → IsLastUpTo words most (most / 64 * 64 + k)
in_page words most k last = at (get words (most / 64)) refl last
  where
    at : (o : Option ℕ) → get words (most / 64) ≡ o → IsLastIn o (most % 64) k → IsLastUpTo words most (most / 64 * 64 + k)
    at None is found = absurd found
    at (Some w) is found =
        let within = found.within in
        let page : (most / 64 * 64 + k) / 64 ≡ most / 64 = omega (arith, within) in
        let place : (most / 64 * 64 + k) % 64 ≡ k = omega (arith, within) in record {
          there = subst (λ p. InSome (get words p) ((most / 64 * 64 + k) % 64)) (sym page) (subst (λ o. InSome o ((most / 64 * 64 + k) % 64)) (sym is) (subst (InWord w) (sym place) found.there));
          within = omega (arith, within);
          last = λ q above under has.
              let same : q / 64 ≡ most / 64 = omega (arith, above, under) in
              found.last (q % 64) (omega (arith, above, under)) (omega (arith, above, under))
              (subst (λ o. InSome o (q % 64)) is (subst (λ p. InSome (get words p) (q % 64)) same has));
        }

-- none of the word of a number is up to it
module _ (words : Words) (most : ℕ) (none : (k : ℕ) → k ≤ most % 64 → InSome (get words (most / 64)) k → ⊥) where
  not_in_page : (q : ℕ) → q ≤ most → most / 64 ≤ q / 64 → Has words q → ⊥
  not_in_page q under from has =
      let same : q / 64 ≡ most / 64 = omega (arith, under, from) in
      none (q % 64) (omega (arith, under, from)) (subst (λ p. InSome (get words p) (q % 64)) same has)

  no_word : (q : ℕ) → get words (q / 64) ≡ None → Has words q → ⊥
  no_word q is has = subst (λ o. InSome o (q % 64)) is has

  pub none_before : NoKeyBelow words (most / 64) → NoneUpTo words most
  none_before below q under has = by_case (cases_lt (q / 64) (most / 64))
    where
      by_case : (q / 64 < most / 64) ⊎ (most / 64 ≤ q / 64) → ⊥
      by_case (inl less) = no_word q (below (q / 64) less) has
      by_case (inr from) = not_in_page q under from has

-- the bound through changes of the set
pub empty_has : (words : Words) → words ≡ empty → (q : ℕ) → Has words q → ⊥
empty_has words is q has = subst (λ o. InSome o (q % 64)) (ap (λ (ws : Words). get ws (q / 64)) is ∙ get-empty nat_cmp (q / 64)) has

pub empty_bounded : (words : Words) → words ≡ empty → IsBounded words 0
empty_bounded words is = record {
  full = λ p. subst (λ o. IfSome o IsWord) (sym (ap (λ (ws : Words). get ws p) is ∙ get-empty nat_cmp p)) tt;
  within = λ q has. absurd (empty_has words is q has);
}

-- a set that comes into another, from its last number down
module _ (others old new : Words) (rest task : ℕ) (last : IsLastUpTo others rest task) (put : With old new task)
    (moved : (q : ℕ) → rest < q → Has others q → Has old q) where
  pub moved_on : (q : ℕ) → task ≤ q → Has others q → Has new q
  moved_on q from has = by_case (cases_eq q task) (cases_lt rest q)
    where
      by_case : (q ≡ task) ⊎ (q ≢ task) → (rest < q) ⊎ (q ≤ rest) → Has new q
      by_case (inl same) further = subst (Has new) (sym same) put.there
      by_case (inr apart) (inl above) = put.kept q (moved q above has)
      by_case (inr apart) (inr under) = absurd (last.last q (omega (arith, from, apart)) under has)

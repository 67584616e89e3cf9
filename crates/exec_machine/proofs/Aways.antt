-- Tasks that were taken out of a machine's map, and put back.
use Rattle.std.proofs.Common.{◌≡◌, ◌<◌, ℕ, suc, List, [], ◌∷◌, ◌++◌, length, take, drop, get_or, All, refl, sym, ap, subst, ◌∙◌, Option, Some, None, Bool, true, false, cond, arith}
use Rattle.std.proofs.Math.Seq.{take-append_seam}
use Rattle.std.proofs.lemmas.List.Elements.{All-push}
use Rattle.std.specs.Ordering.{nat_cmp, eq_by_cmp}
use Rattle.std.specs.Cmp.{nat_cmp_total}
use Rattle.std.specs.FinMap.{FinMap, get, insert, get-insert}
use Rattle.code_instrs.specs.Plain.{PlainCode}
use Rattle.exec_tasks.proofs.Numbers.{same_number}
use Rattle.exec_world.proofs.Maps.{same_maps}
use Rattle.exec_machine.specs.declared.away.Away.{Away}
use Rattle.exec_machine.specs.declared.slot.Slot.{Slot}
use Rattle.exec_machine.specs.Away.{CanGoAway, GoesFurther, EachCanGo, IsTakenOut, put_at, put_over, put_back}
use Rattle.exec_machine.specs.Running.{Running, Goes, GoesOne, CanGo, StandsFor, StandsForOne, AllStand, AllGo, OfSlot}
use Rattle.exec_machine.proofs.Maps.{got}

abbrev Map : Type 0
Map = FinMap nat_cmp Slot

-- back over what held its place, a task leaves the slots as they were
back_again : (slots : Map) (k : ℕ) (s other : Slot) → get slots k ≡ Some s → put_at (insert slots k other) k s ≡ slots
back_again slots k s other is =
    ap (put_over (insert slots k other) k s) (got slots k other)
    ∙ same_maps (insert (insert slots k other) k s) slots (λ q. get-insert nat_cmp_total (insert slots k other) k s q
    ∙ ap (cond (eq_by_cmp nat_cmp q k) (Some s)) (get-insert nat_cmp_total slots k other q) ∙ at q (eq_by_cmp nat_cmp q k) refl)
  where
    at : (q : ℕ) (b : Bool) → eq_by_cmp nat_cmp q k ≡ b → cond b (Some s) (cond b (Some other) (get slots q)) ≡ get slots q
    at q true e = sym is ∙ ap (get slots) (sym (same_number q k e))
    at q false e = refl

-- the last that was taken out comes back first
pub put_last : (slots : Map) (xs : List Away) (x : Away) → put_back slots (xs ++ x ∷ []) ≡ put_back (put_at slots x.number x.slot) xs
put_last slots [] x = refl
put_last slots (y ∷ xs) x = ap (λ (m : Map). put_at m y.number y.slot) (put_last slots xs x)

-- what was written over a whole list
pub all_written : (len : ℕ) (ws xs : List Away) → len ≡ length xs → length ws ≡ length xs → take len (ws ++ drop (length ws) xs) ≡ ws
all_written len ws xs is same = ap (λ n. take n (ws ++ drop (length ws) xs)) (is ∙ sym same) ∙ take-append_seam ws (drop (length ws) xs)

-- one task more was taken out
module _ (before slots after : Map) (xs : List Away) (k : ℕ) (s : Slot) (out : IsTakenOut slots k after s) where
  pub put_in_again : put_at after k s ≡ slots
  put_in_again = ap (λ (m : Map). put_at m k s) out.after_is ∙ back_again slots k s out.other out.there

  pub taken_more : put_back slots xs ≡ before → put_back after (xs ++ record { number = k; slot = s } ∷ []) ≡ before
  taken_more back = put_last after xs (record { number = k; slot = s }) ∙ ap (λ (m : Map). put_back m xs) put_in_again ∙ back

  pub still_go : (C : PlainCode) → EachCanGo C slots → EachCanGo C after
  still_go C each q t at number = by_case (eq_by_cmp nat_cmp q k) refl (sym (get-insert nat_cmp_total slots k out.other q) ∙ sym (ap (λ (m : Map). get m q) out.after_is) ∙ at)
    where
      or_this : Option Slot → Slot
      or_this None = t
      or_this (Some x) = x

      by_case : (b : Bool) → eq_by_cmp nat_cmp q k ≡ b → cond b (Some out.other) (get slots q) ≡ Some t → CanGo C q t
      by_case true e is = absurd (out.apart (ap (λ o. (or_this o).task.number) is ∙ number ∙ same_number q k e))
      by_case false e is = each q t is number

  pub goes_too : (C : PlainCode) → EachCanGo C slots → All (CanGoAway C) xs → All (CanGoAway C) (xs ++ record { number = k; slot = s } ∷ [])
  goes_too C each all = All-push (CanGoAway C) xs (record { number = k; slot = s }) all (each k s out.there out.number)

-- where one task stands in slots, another stands in others that has gone further
abbrev pub FurtherOne : PlainCode → ℕ → Option Slot → Option Slot → Type 0
FurtherOne C k None None = Unit {0}
FurtherOne C k (Some s) (Some t) = (r : Running) → Goes C k r → StandsFor C k s r → StandsFor C k t r
FurtherOne C k None (Some t) = ⊥
FurtherOne C k (Some s) None = ⊥

abbrev pub Further : PlainCode → Map → Map → Type 0
Further C m n = (q : ℕ) → FurtherOne C q (get m q) (get n q)

module _ (C : PlainCode) where
  as_it_was : (k : ℕ) (o : Option Slot) → FurtherOne C k o o
  as_it_was k None = tt
  as_it_was k (Some s) = λ r goes stands. stands

  module _ (m n : Map) (k : ℕ) (s t : Slot) (far : Further C m n) (one : FurtherOne C k (Some s) (Some t)) where
    both_put : Further C (insert m k s) (insert n k t)
    both_put q =
        subst (λ o. FurtherOne C q o (get (insert n k t) q)) (sym (get-insert nat_cmp_total m k s q))
        (subst (λ o. FurtherOne C q (cond (eq_by_cmp nat_cmp q k) (Some s) (get m q)) o) (sym (get-insert nat_cmp_total n k t q))
        (by_case (eq_by_cmp nat_cmp q k) refl))
      where
        by_case : (b : Bool) → eq_by_cmp nat_cmp q k ≡ b → FurtherOne C q (cond b (Some s) (get m q)) (cond b (Some t) (get n q))
        by_case true e = subst (λ j. FurtherOne C j (Some s) (Some t)) (sym (same_number q k e)) one
        by_case false e = far q

    both_over : (o p : Option Slot) → FurtherOne C k o p → Further C (put_over m k s o) (put_over n k t p)
    both_over None None there = far
    both_over (Some a) (Some b) there = both_put
    both_over None (Some b) there = absurd there
    both_over (Some a) None there = absurd there

    pub both_at : Further C (put_at m k s) (put_at n k t)
    both_at = both_over (get m k) (get n k) (far k)

  -- tasks that come back have gone further
  pub further_back : (m : Map) (xs ys : List Away) → length ys ≡ length xs
      → ((i : ℕ) (d : Away) → i < length xs → GoesFurther C (get_or xs i d) (get_or ys i d)) → Further C (put_back m xs) (put_back m ys)
  further_back m [] [] same each = λ q. as_it_was q (get m q)
  further_back m [] (y ∷ ys) same each = absurd (omega arith)
  further_back m (x ∷ xs) [] same each = absurd (omega arith)
  further_back m (x ∷ xs) (y ∷ ys) same each =
      let gone = each 0 x (omega arith) in
      subst (λ k. Further C (put_at (put_back m xs) x.number x.slot) (put_at (put_back m ys) k y.slot)) (sym gone.number)
      (both_at (put_back m xs) (put_back m ys) x.number x.slot y.slot (further_back m xs ys (omega arith) (λ i d lt. each (suc i) d (omega arith))) gone.stands)

  module _ (m : Map) (tasks : ℕ → Option Running) (go : AllGo C tasks) (all : AllStand C m tasks) where
    -- what has gone further stands for the same
    pub stand_further : (n : Map) → Further C m n → AllStand C n tasks
    stand_further n far q = by_case (get m q) (get n q) (tasks q) (far q) (go q) (all q)
      where
        by_case : (o p : Option Slot) (x : Option Running) → FurtherOne C q o p → GoesOne C q x → StandsForOne C q o x → StandsForOne C q p x
        by_case None None x gone goes stands = stands
        by_case (Some s) (Some t) None gone goes stands = stands
        by_case (Some s) (Some t) (Some r) gone goes stands = gone r goes stands
        by_case None (Some t) x gone goes stands = absurd gone
        by_case (Some s) None x gone goes stands = absurd gone

    pub each_goes : EachCanGo C m
    each_goes k s at number = by_case (tasks k) (go k) (subst (λ o. StandsForOne C k o (tasks k)) at (all k))
      where
        by_case : (x : Option Running) → GoesOne C k x → StandsForOne C k (Some s) x → CanGo C k s
        by_case None goes stands = absurd stands
        by_case (Some t) goes stands = record { task = t; goes = goes; stands = stands }

-- a slot that is there
pub there_at_all : (o : Option Slot) (k : ℕ) → OfSlot o (λ slot. slot.task.number ≡ k) → OfSlot o (λ slot. Unit {0})
there_at_all None k there = absurd there
there_at_all (Some s) k there = tt

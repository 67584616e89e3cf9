-- What has a name: it stays the same from its making on, and is the same in all runs that agree.
use Rattle.std.proofs.Common.{◌≡◌, ℕ, zero, suc, ⊎_elim, List, [], ◌∷◌, ◌++◌, refl, sym, ap, ◌∙◌, Option, Some, None, slice_get}
use Rattle.std.proofs.Common.{append_assoc, append-nil}
use Rattle.runs_theory.specs.Objects.{Name, Thing}
use Rattle.runs_theory.specs.Actions.{Answer, Program}
use Rattle.runs_theory.specs.Order.{Agree}
use Rattle.runs_theory.specs.Runs.{Event, Run, Upto, answered_by, at_start, later, made, made_by, mine, now, thing_of, things}
use Rattle.runs_theory.proofs.events.Mine.{mine_upto}

things_step : (e : Event) (es : Run) → things (e ∷ es) ≡ things es ++ made_by e.act
unfolding things
things_step e es = refl

-- what a task makes later comes after
things_upto : {es fs : Run} → Upto es fs → (rest : List Thing) × (things fs ≡ things es ++ rest)
things_upto {es} now = ([], sym (append-nil (things es)))
things_upto {es} (later {y = e} {ys = fs} h) =
    let r = things_upto h in
    (r.0 ++ made_by e.act, things_step e fs ∙ ap (λ l. l ++ made_by e.act) r.1 ∙ append_assoc (things es) r.0 (made_by e.act))

still_there : {A : Type 0} (xs ys : List A) (n : ℕ) (x : A) → slice_get xs n ≡ Some x → slice_get (xs ++ ys) n ≡ Some x
still_there [] ys n x h = absurd (let k : None ≡ Some x = h in cc)
still_there (w ∷ xs) ys zero x h = h
still_there (w ∷ xs) ys (suc n) x h = still_there xs ys n x h

pub thing_upto : (P : Program) (R S : Run) (n : Name) (t : Thing) → Upto (mine R n.maker) (mine S n.maker) → thing_of P R n ≡ Some t → thing_of P S n ≡ Some t
thing_upto P R S n t h k =
    let r = things_upto h in
    let start = at_start P n.maker in
    let s : start ++ things (mine S n.maker) ≡ made P R n.maker ++ r.0 = ap (λ l. start ++ l) r.1 ∙ sym (append_assoc start (things (mine R n.maker)) r.0) in
    ap (λ l. slice_get l n.count) s ∙ still_there (made P R n.maker) r.0 n.count t k

pub thing_later : (P : Program) {R S : Run} (n : Name) (t : Thing) → Upto R S → thing_of P R n ≡ Some t → thing_of P S n ≡ Some t
thing_later P {R} {S} n t h k = thing_upto P R S n t (mine_upto n.maker h) k

pub same_some : {A : Type 0} {x y : A} {o : Option A} → o ≡ Some x → o ≡ Some y → x ≡ y
same_some {A} {x} {y} a b = let k : Some x ≡ Some y = sym a ∙ b in cc

pub same_thing : (P : Program) {R S : Run} (n : Name) (t s : Thing) → Agree R S → thing_of P R n ≡ Some t → thing_of P S n ≡ Some s → t ≡ s
same_thing P {R} {S} n t s ag a b = ⊎_elim (λ u. same_some (thing_upto P R S n t u a) b) (λ u. same_some a (thing_upto P S R n s u b)) (ag.both n.maker)

-- what has the name, where an answer came from it
pub record Answering (f : Thing → Answer) (o : Option Thing) (a : Answer) : Type 0 where
  pub thing : Thing
  pub is_there : o ≡ Some thing
  pub answer : a ≡ f thing

pub answering : (f : Thing → Answer) (o : Option Thing) (a : Answer) → answered_by o f ≡ Some a → Answering f o a
answering f None a h = absurd (let k : None ≡ Some a = h in cc)
answering f (Some t) a h = let k : Some (f t) ≡ Some a = h in record { thing = t; is_there = refl; answer = (let j : f t ≡ a = cc in sym j) }

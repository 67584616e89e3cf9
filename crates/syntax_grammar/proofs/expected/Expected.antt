-- What follows from what is expected.
use Rattle.std.proofs.Common.{◌≡◌, ◌∙◌, List, [], ◌∷◌, ◌++◌, Bool, true, Some, refl, sym, ap, subst}
use Rattle.lang_base.specs.declared.place.Place.{Place}
use Rattle.syntax_tokens.specs.declared.terminal.Placed.{Placed}
use Rattle.syntax_tokens.specs.declared.terminal.Terminal.{Terminal}
use Rattle.syntax_grammar.specs.Taking.{Takes}
use Rattle.syntax_grammar.specs.Expecting.{Part, Expected, one, part, next_of, next_is, choose, Steps, stay, pick, pass, IsLost, no_part, no_terminal, too_many, Passes}
use Rattle.syntax_grammar.proofs.once.OnceReader.{starts}

pub picked : {to : List Expected} {left : List Placed} {n : Part} {xs others : List Expected} {here : List Placed} →
    choose n (next_of here) ≡ Some xs → Steps to left (xs ++ others) here → Steps to left (part n ∷ others) here
picked e s = pick e s

pub step_next : {to : List Expected} {left : List Placed} {n : Part} {xs others : List Expected} {wanted : Terminal} {before between : List Placed} {place : Place} →
    Takes wanted before between place → choose n (Some (record {
      terminal =
          wanted;
      place = place;
    })) ≡ Some xs → Steps to left (xs ++ others) before → Steps to left (part n ∷ others) before
step_next {n = n} t e s = pick (ap (λ (l : List Placed). choose n (next_of l)) t.first ∙ e) s

pub taken : {to : List Expected} {left : List Placed} {test : Terminal →
    Bool} {others : List Expected} {wanted : Terminal} {before after : List Placed} {place : Place} →
    Takes wanted before after place → test wanted ≡ true → Steps to left others after → Steps to left (one test ∷ others) before
taken t e s = rw t.first (pass e s)

-- what is lost isn't read to its end
pub lost_not_read : {to : List Expected} {here : List Placed} {expected : List Expected} {before : List Placed} → Steps to here expected before →
    IsLost to here → Steps [] [] expected before → ⊥
lost_not_read stay (too_many {next = next} {after = after}) x = elim x [ ]
lost_not_read stay (no_part none) (pick some s) = cc (none, some)
lost_not_read stay (no_terminal turned) (pass taken s) = cc (turned, taken)
lost_not_read (pick {xs = xs} {others = others} {here = at} e s) lost (pick f t) =
    let same : xs ≡ _ = cc (e, f) in
    lost_not_read s lost (subst (λ (x : List Expected). Steps [] [] (x ++ others) at) (sym same) t)
lost_not_read (pass e s) lost (pass f t) = lost_not_read s lost t

-- what is reached depends on no terminal after the next one
pub record Alike (to expected : List Expected) (before here : List Placed) : Type 0 where
  pub read : List Placed
  pub is : before ≡ read ++ here
  pub same : (other : List Placed) → next_of other ≡ next_of here → Steps to other expected (read ++ other)

next_same : (read here other : List Placed) → next_of other ≡ next_of here → next_of (read ++ other) ≡ next_of (read ++ here)
next_same [] here other e = e
next_same (next ∷ read) here other e = refl

pub alike : {to : List Expected} {here : List Placed} {expected : List Expected} {before : List Placed} → Steps to here expected before →
    Alike to expected before here
alike stay = record { read = []; is = refl; same = λ other e. stay }
alike (pick {n = n} {xs = xs} {here = before} e s) =
    let a = alike s in
    record {
      read = a.read;
      is = a.is;
      same = λ other is. pick (ap (choose n) (next_same a.read _ other is ∙ ap next_of (sym a.is)) ∙ e) (a.same other is);
    }
alike (pass {next =
    next} e s) = let a = alike s in record { read = next ∷ a.read; is = ap (λ (l : List Placed). next ∷ l) a.is; same = λ other is. pass e (a.same other is) }

pub lost_alike : {to : List Expected} {here other : List Placed} → IsLost to here → next_of other ≡ next_of here → IsLost to other
lost_alike (no_part {n = n} e) is = no_part (ap (choose n) is ∙ e)
lost_alike (no_terminal {test = test} e) is = no_terminal (ap (next_is test) is ∙ e)
lost_alike {other = []} too_many is = cc
lost_alike {other = next ∷ after} too_many is = too_many

pub nothing : {here : List Placed} → Passes [] here here
nothing = record { goes = λ s. s }

pub rule : {n : Part} {xs : List Expected} {before after : List Placed} → choose n (next_of before) ≡ Some xs → Passes xs before after →
    Passes (part n ∷ []) before after
rule e p = record { goes = λ s. pick e (p.goes s) }

pub on_next : {n : Part} {xs : List Expected} {wanted : Terminal} {before between after : List Placed} {place : Place} →
    Takes wanted before between place → choose n (Some (record {
      terminal =
          wanted;
      place = place;
    })) ≡ Some xs → Passes xs before after → Passes (part n ∷ []) before after
on_next {n} t e p = record { goes = λ s. pick (ap (λ (l : List Placed). choose n (next_of l)) t.first ∙ e) (p.goes s) }

pub took : {test : Terminal → Bool} {wanted : Terminal} {before after : List Placed} {place : Place} → Takes wanted before after place →
    test wanted ≡ true → Passes (one test ∷ []) before after
took t e = record { goes = λ s. rw t.first (pass e s) }

pub link : {x : Expected} {xs : List Expected} {before one_after after : List Placed} → Passes (x ∷ []) before one_after → Passes xs one_after after →
    Passes (x ∷ xs) before after
link p q = record { goes = λ s. p.goes (q.goes s) }

pub two : {x y : Expected} {xs : List Expected} {before between after : List Placed} → Passes (x ∷ y ∷ []) before between → Passes xs between after →
    Passes (x ∷ y ∷ xs) before after
two p q = record { goes = λ s. p.goes (q.goes s) }

pub three : {x y z : Expected} {xs : List Expected} {before between after : List Placed} → Passes (x ∷ y ∷ z ∷ []) before between → Passes xs between after → Passes (x ∷ y ∷ z ∷ xs) before after
three p q = record { goes = λ s. p.goes (q.goes s) }

pub is_next : (test : Terminal → Bool) (before : List Placed) {b : Bool} → starts test before ≡ b → next_is test (next_of before) ≡ b
is_next test [] e = e
is_next test (next ∷ after) e = e

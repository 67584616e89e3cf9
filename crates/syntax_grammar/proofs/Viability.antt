-- Where a text is lost, what stands in front can still become a program; and what is read to its end is one.
use Rattle.std.proofs.Common.{◌≡◌, ◌∙◌, List, [], ◌∷◌, ◌++◌, Some, refl, sym, ap, subst}
use Rattle.std.proofs.lemmas.List.{append_cancel_right}
use Rattle.syntax_tokens.specs.declared.terminal.Placed.{Placed}
use Rattle.syntax_tree.specs.declared.class.Class.{Class}
use Rattle.syntax_grammar.specs.Classes.{DerivesProgram}
use Rattle.syntax_grammar.specs.Expecting.{Part, Expected, one, part, next_of, choose, Steps, stay, pick, pass}
use Rattle.syntax_grammar.specs.Viable.{IsViable}
use Rattle.syntax_grammar.specs.Expecting.{Part as p}
use Rattle.syntax_grammar.proofs.meant.Meant.{All, AllOf, split, joined}
use Rattle.syntax_grammar.proofs.Meaning.{meant}
use Rattle.syntax_grammar.proofs.Satisfied.{Good, nothing_next, part_next, GoodOf, of_some, after_part, after_one, good, good_append}
use Rattle.syntax_grammar.proofs.Completing.{completed}

-- a part that is replaced by what it begins with
replaced : (n : Part) (xs others : List Expected) (before after : List Placed) → choose n (next_of before) ≡ Some xs → All (xs ++ others) before after → All (part n ∷ others) before after
replaced n xs others before after e h =
    let parts = split xs others before after h in
    let chosen : AllOf (choose n (next_of before)) before parts.mid = rw e parts.first in
    joined (part n) others before parts.mid after (meant n before parts.mid chosen) parts.others

read_derives : {expected : List Expected} {before : List Placed} → Steps [] [] expected before → All expected before []
read_derives stay = refl
read_derives (pick {n = n} {xs = xs} {others = others} {here = here} e s) = replaced n xs others here [] e (read_derives s)
read_derives (pass {test = test} {others = others} {next = next} {after = after} e s) = joined (one test) others (next ∷ after) after [] (record { next = next; is = refl; passes = e }) (read_derives s)

pub read_program : {list : List Placed} → Steps [] [] (part p.program ∷ []) list → (classes : List Class) × DerivesProgram list classes
read_program s = read_derives s refl

-- what was read, and something that it can go on with
record Goes (expected : List Expected) (before here : List Placed) : Type 0 where
  read : List Placed
  is : before ≡ read ++ here
  others : List Placed
  derives : All expected (read ++ others) []

picked_by : {here : List Placed} (n : Part) (xs others : List Expected) (before read more : List Placed) → Good (part n ∷ others) → choose n (next_of before) ≡ Some xs → before ≡ read ++ here →
    All (xs ++ others) (read ++ more) [] → Goes (part n ∷ others) before here
picked_by n xs others before [] more g e is h = let c = completed g [] in record { read = []; is = is; others = c.before; derives = c.holds }
picked_by n xs others before (next ∷ read) more g e is h =
    record { read = next ∷ read; is = is; others = more; derives = replaced n xs others (next ∷ (read ++ more)) [] (ap (choose n) (ap next_of (sym is)) ∙ e) h }

picked : {here : List Placed} (n : Part) (xs others : List Expected) (before : List Placed) → Good (part n ∷ others) → choose n (next_of before) ≡ Some xs → Goes (xs ++ others) before here → Goes (part n ∷ others) before here
picked n xs others before g e r = picked_by n xs others before r.read r.others g e r.is r.derives

goes_on : {to : List Expected} {here : List Placed} {expected : List Expected} {before : List Placed} → Good expected → Steps to here expected before → Goes expected before here
goes_on {expected = expected} g stay = let c = completed g [] in record { read = []; is = refl; others = c.before; derives = c.holds }
goes_on {expected = expected} {before = before} g (pick {n = n} {xs = xs} {others = others} e s) =
    let chosen : GoodOf (Some xs) = subst GoodOf e (good n (next_of before)) in
    picked n xs others before g e (goes_on (good_append others (of_some chosen) (after_part g)) s)
goes_on g (pass {test = test} {others = others} {next = next} e s) =
    let r = goes_on (after_one g) s in
    record {
      read = next ∷ r.read;
      is = ap (λ (l : List Placed). next ∷ l) r.is;
      others = r.others;
      derives = joined (one test) others (next ∷ (r.read ++ r.others)) (r.read ++ r.others) [] (record { next = next; is = refl; passes = e }) r.derives;
    }

pub viable : (read here : List Placed) {to : List Expected} → Steps to here (part p.program ∷ []) (read ++ here) → IsViable read
viable read here s =
    let r = goes_on (part_next nothing_next) s in
    let same : r.read ≡ read = append_cancel_right r.read read here (sym r.is) in
    let program = r.derives refl in
    record { others = r.others; classes = program.0; derived = subst (λ (l : List Placed). DerivesProgram (l ++ r.others) program.0) same program.1 }

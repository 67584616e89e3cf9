-- Reading as it is run, step by step, for texts that are written out: what a run answers holds.
use Rattle.std.proofs.Common.{◌≡◌, ℕ, zero, suc, List, [], ◌∷◌, Bool, true, false, ◌&&◌, nat_le, Option, Some, None, refl, subst, arith}
use Rattle.std.proofs.lemmas.Bool.Decides.{nat_tests}
use Rattle.lang_base.specs.declared.refusal.Kind.{Kind}
use Rattle.lang_base.specs.declared.refusal.Kind.TheVariants as kind
use Rattle.syntax_tokens.specs.declared.terminal.Placed.{Placed}
use Rattle.syntax_tokens.specs.declared.terminal.Terminal.{Terminal}
use Rattle.syntax_grammar.specs.Expecting.{Part, Expected, one, part, choose, next_of}
use Rattle.syntax_grammar.specs.Limits.{Counts, Fits, past, inside, outside, Within, nothing, begins, passes, Stops, no_part, no_terminal, too_many, in_part, after_part, after_terminal}

-- what a run comes to, if it takes no more steps than it may
pub data Run : Type 0 where
  read : Counts → List Placed → Run
  stopped : Kind → List Placed → Run
  unknown : Run

-- reading what is expected, within some steps
abbrev Reader : Type 0
Reader = Counts → List Expected → List Placed → Run

abbrev fits : Counts → Bool
fits c = nat_le c.level 32 && nat_le c.joined 32

-- one terminal, that passes its test or not and fits or not, and what is expected after it
abbrev run_one : Reader → Counts → List Expected → Placed → List Placed → Bool → Bool → Run
run_one go c others next after false room = stopped kind.Syntax (next ∷ after)
run_one go c others next after true false = stopped kind.Nest (next ∷ after)
run_one go c others next after true true = go (past next.terminal c) others after

-- what is expected after a part
abbrev run_others : Reader → Part → Counts → List Expected → Run → Run
run_others go n c others (read d between) = go (outside n c d) others between
run_others go n c others (stopped k here) = stopped k here
run_others go n c others unknown = unknown

-- one part, and what is expected after it
abbrev run_part : Reader → Part → Counts → List Expected → List Placed → Option (List Expected) → Run
run_part go n c others before None = stopped kind.Syntax before
run_part go n c others before (Some xs) = run_others go n c others (go (inside n (next_of before) c) xs before)

abbrev pub run : ℕ → Counts → List Expected → List Placed → Run
run zero c xs here = unknown
run (suc most) c [] here = read c here
run (suc most) c (one test ∷ others) [] = stopped kind.Syntax []
run (suc most) c (one test ∷ others) (next ∷ after) = run_one (run most) c others next after (test next.terminal) (fits c)
run (suc most) c (part n ∷ others) before = run_part (run most) n c others before (choose n (next_of before))

-- what the answer of a run says
abbrev Answers : Counts → List Expected → List Placed → Run → Type 0
Answers c xs before (read d after) = Within c xs before d after
Answers c xs before (stopped k here) = Stops c xs before k here
Answers c xs before unknown = Unit {0}

abbrev Answering : Reader → Type 0
Answering go = (c : Counts) (xs : List Expected) (before : List Placed) → Answers c xs before (go c xs before)

fitting : (c : Counts) → fits c ≡ true → Fits c
fitting c e = record { level = grind (arith, nat_tests); joined = grind (arith, nat_tests) }

not_fitting : (c : Counts) → fits c ≡ false → Fits c → ⊥
not_fitting c e f = let l = f.level in let j = f.joined in grind (arith, nat_tests)

passed : (c : Counts) (test : Terminal → Bool) (others : List Expected) (next : Placed) (after : List Placed) (r : Run) → test next.terminal ≡ true → Fits c → Answers (past next.terminal c) others after r →
    Answers c (one test ∷ others) (next ∷ after) r
passed c test others next after (read d between) e f w = passes e f w
passed c test others next after (stopped k here) e f s = after_terminal e f s
passed c test others next after unknown e f s = tt

one_answers : (go : Reader) → Answering go → (c : Counts) (test : Terminal → Bool) (others : List Expected) (next : Placed) (after : List Placed) (passing room : Bool) →
    test next.terminal ≡ passing → fits c ≡ room → Answers c (one test ∷ others) (next ∷ after) (run_one go c others next after passing room)
one_answers go all c test others next after false room e f = no_terminal e
one_answers go all c test others next after true false e f = too_many e (not_fitting c f)
one_answers go all c test others next after true true e f = passed c test others next after (go (past next.terminal c) others after) e (fitting c f) (all (past next.terminal c) others after)

begun : (n : Part) (c d : Counts) (xs others : List Expected) (before between : List Placed) (r : Run) → choose n (next_of before) ≡ Some xs → Within (inside n (next_of before) c) xs before d between →
    Answers (outside n c d) others between r → Answers c (part n ∷ others) before r
begun n c d xs others before between (read e after) f w v = begins f w v
begun n c d xs others before between (stopped k here) f w s = after_part f w s
begun n c d xs others before between unknown f w s = tt

others_answer : (go : Reader) → Answering go → (n : Part) (c : Counts) (xs others : List Expected) (before : List Placed) (r : Run) → choose n (next_of before) ≡ Some xs →
    Answers (inside n (next_of before) c) xs before r → Answers c (part n ∷ others) before (run_others go n c others r)
others_answer go all n c xs others before (read d between) e w = begun n c d xs others before between (go (outside n c d) others between) e w (all (outside n c d) others between)
others_answer go all n c xs others before (stopped k here) e s = in_part e s
others_answer go all n c xs others before unknown e s = tt

part_answers : (go : Reader) → Answering go → (n : Part) (c : Counts) (others : List Expected) (before : List Placed) (o : Option (List Expected)) → choose n (next_of before) ≡ o →
    Answers c (part n ∷ others) before (run_part go n c others before o)
part_answers go all n c others before None e = no_part e
part_answers go all n c others before (Some xs) e = others_answer go all n c xs others before (go (inside n (next_of before) c) xs before) e (all (inside n (next_of before) c) xs before)

answers : (most : ℕ) → Answering (run most)
answers zero c xs before = tt
answers (suc most) c [] before = nothing
answers (suc most) c (one test ∷ others) [] = no_terminal refl
answers (suc most) c (one test ∷ others) (next ∷ after) = one_answers (run most) (answers most) c test others next after (test next.terminal) (fits c) refl refl
answers (suc most) c (part n ∷ others) before = part_answers (run most) (answers most) n c others before (choose n (next_of before)) refl

pub within_by : {c d : Counts} {xs : List Expected} {before after : List Placed} (most : ℕ) → run most c xs before ≡ read d after → Within c xs before d after
within_by {c = c} {xs = xs} {before = before} most e = subst (Answers c xs before) e (answers most c xs before)

pub stops_by : {c : Counts} {xs : List Expected} {before here : List Placed} {k : Kind} (most : ℕ) → run most c xs before ≡ stopped k here → Stops c xs before k here
stops_by {c = c} {xs = xs} {before = before} most e = subst (Answers c xs before) e (answers most c xs before)

-- In generated code each fork and each spread stands directly in front of its join.
use Rattle.std.proofs.Common.{◌≡◌, ℕ, zero, suc, List, [], ◌∷◌, ◌++◌, refl, sym, ap, ◌∙◌, subst, Option, Some, None, slice_get}
use Rattle.lang_base.specs.declared.place.Place.{Place}
use Rattle.lang_typed.specs.Plain.{TypedStmt, PlainMember, PlainProgram}
use Rattle.code_instrs.specs.declared.instr.Instr.{Instr}
use Rattle.code_instrs.specs.declared.instr.Instr.TheVariants as i
use Rattle.code_instrs.specs.Plain.{Line, PlainBody, Site, PlainCode, body_at, body_or_none}
use Rattle.code_instrs.specs.Machine.{branch_site}
use Rattle.code_scheme.specs.Pieces.{Branch, Piece, Next, past, nothing, line, with_site, with_text, with_branches, beside}
use Rattle.code_scheme.specs.Scheme.{closes}
use Rattle.code_scheme.proofs.Built.{Nothing_asked, none_asked, Built, branch_built, member_built}
use Rattle.lang_typed.proofs.Parts.{each_stmt, each_all}
use Rattle.code_scheme.specs.Whole.{weight_all, branch_piece_of, branch_piece, place_of, member_piece, generate, in_member, member_output, past_output, members_output, first, compiled}

-- what stands after a fork or a spread
abbrev BeforeJoin : Option ℕ → List Line → Type 0
BeforeJoin None ls = Unit {0}
BeforeJoin (Some s) [] = ⊥
BeforeJoin (Some s) (l ∷ ls) = l.instr ≡ i.Join

abbrev Paired : List Line → Type 0
Paired [] = Unit {0}
Paired (l ∷ ls) = BeforeJoin (branch_site l.instr) ls × Paired ls

before_on : (o : Option ℕ) (xs ys : List Line) → BeforeJoin o xs → BeforeJoin o (xs ++ ys)
before_on None xs ys h = tt
before_on (Some s) [] ys h = absurd h
before_on (Some s) (x ∷ xs) ys h = h

paired_on : (xs ys : List Line) → Paired xs → Paired ys → Paired (xs ++ ys)
paired_on [] ys h k = k
paired_on (x ∷ xs) ys h k = (before_on (branch_site x.instr) xs ys h.0, paired_on xs ys h.1 k)

record Pairs (a : Piece) : Type 0 where
  is : Paired a.lines

both : {a b : Piece} → Pairs a → Pairs b → Pairs (beside a b)
unfolding beside
both {a} {b} h k = record { is = paired_on a.lines b.lines h.is k.is }

next : {a : Piece} (x : Instr) (at : Place) → branch_site x ≡ None → Pairs a → Pairs (line x at a)
unfolding line
next {a} x at e h = record { is = (subst (λ o. BeforeJoin o a.lines) (sym e) tt, h.is) }

stop : Pairs nothing
stop = record { is = tt }

forked : (s : ℕ) (at : Place) → Pairs (line (i.Fork s) at (line i.Join at nothing))
unfolding line
forked s at = record { is = (refl, (tt, tt)) }

spreads : (s : ℕ) (at : Place) → Pairs (line (i.Spread s) at (line i.Join at nothing))
unfolding line
spreads s at = record { is = (refl, (tt, tt)) }

sited : {a : Piece} (s : Site) → Pairs a → Pairs (with_site s a)
unfolding with_site
sited s h = record { is = h.is }

texted : {a : Piece} (t : List ℕ) → Pairs a → Pairs (with_text t a)
unfolding with_text
texted t h = record { is = h.is }

branched : {a : Piece} (bs : List Branch) → Pairs a → Pairs (with_branches bs a)
unfolding with_branches
branched bs h = record { is = h.is }

pairs_built : Built Nothing_asked (λ p a q n. Pairs a)
pairs_built = record {
  stop = λ p. stop;
  next = λ x at e h. next x at e h;
  both = λ h j. both h j;
  sited = λ s e h. sited s h;
  texted = λ t h. texted t h;
  cobegin = λ k p at forking bs h. branched _ (sited _ (forked _ at));
  foreach = λ k p at forking x start count s h. branched _ (sited _ (spreads _ at));
  foreach_parts = λ k p at x source count s h. branched _ (sited _ (spreads _ at));
}

branch_pairs : (k : Next) (at : Place) (s : TypedStmt) (takes : Option ℕ) → Pairs (branch_piece_of k at s takes)
branch_pairs k at s takes = branch_built Nothing_asked (λ p a q n. Pairs a) none_asked pairs_built k at s takes tt

member_pairs : (k : Next) (m : PlainMember) → Pairs (member_piece k m)
member_pairs k m = member_built Nothing_asked (λ p a q n. Pairs a) none_asked pairs_built k m.body (closes m) (each_all Nothing_asked (λ s. tt) (each_stmt m.body))

-- the bodies of the whole code
abbrev AllPaired : List PlainBody → Type 0
AllPaired [] = Unit {0}
AllPaired (b ∷ bs) = Paired b.lines × AllPaired bs

all_on : (xs ys : List PlainBody) → AllPaired xs → AllPaired ys → AllPaired (xs ++ ys)
all_on [] ys h k = k
all_on (x ∷ xs) ys h k = (h.0, all_on xs ys h.1 k)

generate_pairs : (n : ℕ) (m : PlainMember) (k : Next) (todo : List Branch) → AllPaired (generate n m k todo).bodies
generate_pairs zero m k todo = tt
generate_pairs (suc n) m k [] = tt
generate_pairs (suc n) m k (b ∷ todo) =
    ((branch_pairs k (place_of b.stmt) b.stmt b.takes).is, generate_pairs n m (past k (branch_piece k b)) (todo ++ (branch_piece k b).branches))

member_output_pairs : (k : Next) (m : PlainMember) → AllPaired (member_output k m).bodies
member_output_pairs k m =
    ((member_pairs (in_member k) m).is, generate_pairs (weight_all m.body) m (past (in_member k) (member_piece (in_member k) m)) (member_piece (in_member k) m).branches)

members_pairs : (k : Next) (ms : List PlainMember) → AllPaired (members_output k ms).bodies
members_pairs k [] = tt
members_pairs k (m ∷ ms) =
    all_on (member_output k m).bodies (members_output (past_output k (member_output k m)) ms).bodies (member_output_pairs k m)
    (members_pairs (past_output k (member_output k m)) ms)

body_paired : (bs : List PlainBody) (j : ℕ) → AllPaired bs → Paired (body_or_none (slice_get bs j)).lines
body_paired [] j h = tt
body_paired (b ∷ bs) zero h = h.0
body_paired (b ∷ bs) (suc j) h = body_paired bs j h.1

-- after a fork or a spread stands a join
abbrev pub ForksAreJoined : PlainCode → Type 0
ForksAreJoined C = (j q s : ℕ) (l : Line) → slice_get (body_at C j).lines q ≡ Some l → branch_site l.instr ≡ Some s
    → (m : Line) × (slice_get (body_at C j).lines (suc q) ≡ Some m) × (m.instr ≡ i.Join)

joined_in : (ls : List Line) (q s : ℕ) (l : Line) → Paired ls → slice_get ls q ≡ Some l → branch_site l.instr ≡ Some s
    → (m : Line) × (slice_get ls (suc q) ≡ Some m) × (m.instr ≡ i.Join)
joined_in [] q s l h e f = absurd (let none : None ≡ Some l = e in cc)
joined_in (x ∷ ls) (suc q) s l h e f = joined_in ls q s l h.1 e f
joined_in (x ∷ ls) zero s l h e f = go ls (subst (λ o. BeforeJoin o ls) (let same : x ≡ l = cc in ap (λ z. branch_site z.instr) same ∙ f) h.0)
  where
    go : (ls : List Line) → BeforeJoin (Some s) ls → (m : Line) × (slice_get ls 0 ≡ Some m) × (m.instr ≡ i.Join)
    go [] h = absurd h
    go (m ∷ ls) h = (m, refl, h)

pub forks_are_joined : (P : PlainProgram) → ForksAreJoined (compiled P)
unfolding compiled
forks_are_joined P j q s l e f = joined_in (body_at (compiled P) j).lines q s l (body_paired (members_output first P.members).bodies j (members_pairs first P.members)) e f

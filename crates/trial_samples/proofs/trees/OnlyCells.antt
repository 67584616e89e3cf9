-- The small tree means one program of its form alone.
use Rattle.std.proofs.Common.{◌≡◌, ◌∙◌, ℕ, zero, suc, ◌<◌, false, List, [], ◌∷◌, ◌++◌, Contains, Some, refl, sym, ap, arith, slice_index_or}
use Rattle.std.specs.List.{AllZip}
use Rattle.lang_base.specs.declared.effect.Access.TheVariants.{Read, Write}
use Rattle.lang_base.specs.declared.effect.Effect.{Effect}
use Rattle.lang_base.specs.declared.elems.Elem.{Elem}
use Rattle.lang_base.specs.declared.elems.Elem.TheVariants.{Name, Star}
use Rattle.lang_base.specs.declared.region.Rpl.{Rpl}
use Rattle.lang_base.specs.declared.region.Head.TheVariants.{Root, Param}
use Rattle.syntax_tree.specs.declared.class.Class.{Class}
use Rattle.syntax_tree.specs.declared.region.ElemTree.TheVariants as elem
use Rattle.lang_typed.specs.Statements.{SameEffects}
use Rattle.trial_samples.specs.trees.Laws.{WrongAreRefused}
use Rattle.syntax_means.specs.Means.{ItemMeans, MemberMeans, Means, in_method, SummaryMeans}
use Rattle.syntax_means.specs.Paths.{Around, ElemMeans, root_path}
use Rattle.trial_samples.specs.trees.Cells.{Picks, right, program, tree, getter, sub_tree, reads_below, below_param, in_b}
use Rattle.trial_samples.proofs.trees.Each.{some_is}
use Rattle.trial_samples.proofs.trees.CellBody.{BodyIs, body_is, body_of, slots_are}
use Rattle.trial_samples.proofs.trees.CellsMean.{get_of_sub}
use Rattle.trial_samples.proofs.trees.Refused.{at_param_and, region_is, parent_is, row_is, main_is}

-- the summary of Sub.get
abbrev reads_it : Rpl → Effect
reads_it a = record { access = Read; atomic = false; rpl = a }

star_is : {A : Around} {y : Elem} → ElemMeans A [] elem.Star y → y ≡ Star
star_is ElemMeans.a_star = refl

one_item : (x y : Effect) (k : ℕ) → k < 1 → slice_index_or (y ∷ []) k x ≡ x → y ≡ x
one_item x y zero lt e = e
one_item x y (suc k) lt e = absurd (omega arith)

items_are : (A : Around) (a : Rpl) (reads writes : List Effect) → A.params ≡ 8 ∷ [] → AllZip (ItemMeans A Read) (reads_below 8).reads reads → AllZip (ItemMeans A Write) [] writes →
    SameEffects (reads_it a ∷ []) (reads ++ writes) → a ≡ below_param (Star ∷ [])
items_are A a [] writes o g h same = absurd g
items_are A a (r ∷ s ∷ rs) writes o g h same = absurd g.1
items_are A a (r ∷ []) (w ∷ ws) o g h same = absurd h
items_are A a (r ∷ []) [] o g h same =
    let k = at_param_and o g.0.path in
    let c : Contains (reads_it a ∷ []) r = (same r).1 (0, (omega arith), refl) in
    let e : reads_it a ≡ r = one_item r (reads_it a) c.0 c.1 c.2 in
    ap (λ (z : Effect). z.rpl) e ∙ k.2 ∙ ap (λ y. below_param (y ∷ [])) (star_is k.1)

summary_means : {A : Around} {a : Rpl} → A.params ≡ 8 ∷ [] → SummaryMeans A (Some (reads_below 8)) (reads_it a ∷ []) → a ≡ below_param (Star ∷ [])
summary_means {A = A} {a = a} o (SummaryMeans.written reads writes g h same) = items_are A a reads writes o g h same

summary_is : (q : Picks) → Means tree (program q) → q.summary ≡ right.summary
summary_is q m =
    let k : MemberMeans tree (program q) get_of_sub (getter 1 2 q.summary) = m.members 1 get_of_sub (getter 1 2 q.summary) refl refl in
    summary_means (ap (λ (class : Class). (in_method tree (program q) class get_of_sub).params) (sym (some_is sub_tree k.class k.stands))) k.summary

abbrev make : Rpl → Rpl → ℕ → Rpl → List Rpl → ℕ → ℕ → ℕ → ℕ → ℕ → ℕ → ℕ → ℕ → Picks
make region parent row summary args first second printed local_region slot index actual main = record { region = region; parent = parent; row = row; summary = summary; args = args; first = first; second = second; printed = printed; local_region = local_region; slot = slot; index = index; actual = actual; main = main }

same_made : (a0 b0 : Rpl) (a1 b1 : Rpl) (a2 b2 : ℕ) (a3 b3 : Rpl) (a4 b4 : List Rpl) (a5 b5 : ℕ) (a6 b6 : ℕ) (a7 b7 : ℕ) (a8 b8 : ℕ) (a9 b9 : ℕ) (a10 b10 : ℕ) (a11 b11 : ℕ) (a12 b12 : ℕ) → a0 ≡ b0 → a1 ≡ b1 → a2 ≡ b2 → a3 ≡ b3 → a4 ≡ b4 → a5 ≡ b5 → a6 ≡ b6 → a7 ≡ b7 → a8 ≡ b8 → a9 ≡ b9 → a10 ≡ b10 → a11 ≡ b11 → a12 ≡ b12 → make a0 a1 a2 a3 a4 a5 a6 a7 a8 a9 a10 a11 a12 ≡ make b0 b1 b2 b3 b4 b5 b6 b7 b8 b9 b10 b11 b12
same_made a0 b0 a1 b1 a2 b2 a3 b3 a4 b4 a5 b5 a6 b6 a7 b7 a8 b8 a9 b9 a10 b10 a11 b11 a12 b12 e0 e1 e2 e3 e4 e5 e6 e7 e8 e9 e10 e11 e12 = cc

same_picks : (a b : Picks) → a.region ≡ b.region → a.parent ≡ b.parent → a.row ≡ b.row → a.summary ≡ b.summary → a.args ≡ b.args → a.first ≡ b.first → a.second ≡ b.second → a.printed ≡ b.printed → a.local_region ≡ b.local_region → a.slot ≡ b.slot → a.index ≡ b.index → a.actual ≡ b.actual → a.main ≡ b.main → a ≡ b
same_picks a b e0 e1 e2 e3 e4 e5 e6 e7 e8 e9 e10 e11 e12 = same_made a.region b.region a.parent b.parent a.row b.row a.summary b.summary a.args b.args a.first b.first a.second b.second a.printed b.printed a.local_region b.local_region a.slot b.slot a.index b.index a.actual b.actual a.main b.main e0 e1 e2 e3 e4 e5 e6 e7 e8 e9 e10 e11 e12

pub only : (q : Picks) → Means tree (program q) → q ≡ right
only q m =
    let b : BodyIs q = body_is q (body_of q m) in
    let s = slots_are q m in
    same_picks q right (region_is q m) (parent_is q m) (row_is q m) (summary_is q m) b.args s.0 s.1 (b.printed ∙ s.1) b.local_region b.slot b.index b.actual (main_is q m)

-- paths that differ in their heads or in their length
root_isn't : (n : ℕ) (xs : List Elem) → root_path ≡ record { head = Param n; elems = xs } → ⊥
root_isn't n xs e = absurd (let z : Root ≡ Param n = ap (λ (a : Rpl). a.head) e in cc)

args_differ : (a : Rpl) → [] ≡ a ∷ [] → ⊥
args_differ a e = absurd (cc)

arg_is : (a b : Rpl) → a ∷ [] ≡ b ∷ [] → a ≡ b
arg_is a b e = cc

root_isn't_b : root_path ≡ in_b → ⊥
root_isn't_b e = absurd (let z : [] ≡ Name 1 ∷ [] = ap (λ (a : Rpl). a.elems) e in cc)

numbers_differ : (a b : ℕ) → a < b → a ≡ b → ⊥
numbers_differ a b lt e = absurd (omega arith)

larger_differ : (a b : ℕ) → b < a → a ≡ b → ⊥
larger_differ a b lt e = absurd (omega arith)

pub refused : WrongAreRefused
refused = record {
  region = λ m. root_isn't 0 (Name 0 ∷ []) (region_is (record right { region = root_path }) m);
  parent = λ m. root_isn't 0 [] (parent_is (record right { parent = root_path }) m);
  row = λ m. numbers_differ 0 1 (omega arith) (row_is (record right { row = 0 }) m);
  summary = λ m. root_isn't 0 (Star ∷ []) (summary_is (record right { summary = root_path }) m);
  no_args = λ m. args_differ in_b (in_body (record right { args = [] }) m).args;
  root_args = λ m. root_isn't_b (arg_is root_path in_b (in_body (record right { args = root_path ∷ [] }) m).args);
  slots = λ m. larger_differ 4 3 (omega arith) (slots_are (record right { first = 4; second = 3; printed = 3 }) m).0;
  printed = λ m. numbers_differ 3 4 (omega arith) (in_body (record right { printed = 3 }) m).printed;
  local_region = λ m. larger_differ 1 0 (omega arith) (in_body (record right { local_region = 1 }) m).local_region;
  slot = λ m. numbers_differ 0 1 (omega arith) (in_body (record right { slot = 0 }) m).slot;
  index = λ m. numbers_differ 1 6 (omega arith) (in_body (record right { index = 1 }) m).index;
  actual = λ m. larger_differ 2 1 (omega arith) (in_body (record right { actual = 2 }) m).actual;
  main = λ m. numbers_differ 0 2 (omega arith) (main_is (record right { main = 0 }) m);
}
  where
    in_body : (q : Picks) → Means tree (program q) → BodyIs q
    in_body q m = body_is q (body_of q m)

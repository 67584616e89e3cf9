-- The code of narrow bodies has no fork of more branches than that.
use Rattle.std.proofs.Common.{◌≡◌, ◌≤◌, ◌<◌, ◌+◌, ◌^◌, ℕ, zero, suc, true, false, List, [], ◌∷◌, ◌++◌, All, length, map, Option, Some, None, refl, sym, ap, subst, arith}
use Rattle.std.proofs.lemmas.List.Elements.{All-nil, All-cons, All-head, All-tail, All-append}
use Rattle.lang_base.specs.declared.place.Place.{Place}
use Rattle.lang_typed.specs.declared.stmt.Forking.{Forking}
use Rattle.lang_typed.specs.declared.stmt.Forking.TheVariants.{Deterministic}
use Rattle.lang_typed.specs.Plain.{TypedStmt, TypedBranches, no_branches, more_branches, PlainMember, PlainProgram}
use Rattle.code_instrs.specs.declared.code.Code.{Code}
use Rattle.code_instrs.specs.declared.code.Site.{Site as DeclaredSite}
use Rattle.code_instrs.specs.declared.code.Site.TheVariants as declared
use Rattle.code_instrs.specs.declared.instr.Instr.{Instr}
use Rattle.code_instrs.specs.declared.instr.Instr.TheVariants as i
use Rattle.code_instrs.specs.Plain.{of_branch, Site, fork_site, spread_site, block_site, call_site, new_site, array_site, plain_site, PlainCode, plain_code}
use Rattle.code_scheme.specs.Pieces.{Branch, Piece, Next, past, nothing, line, with_site, with_text, with_branches, beside}
use Rattle.code_scheme.specs.Scheme.{closes, numbers, branches_of}
use Rattle.code_scheme.specs.Whole.{weight_all, place_of, branch_piece_of, branch_piece, member_piece, generate, in_member, member_output, past_output, members_output, first, compiled}
use Rattle.exec_task.specs.Halts.{IsWidthBounded}
use Rattle.lang_typed.proofs.Narrow.{width, Narrow, AllNarrow, BranchesNarrow, each_narrow, parts_narrow}
use Rattle.code_scheme.proofs.Built.{has_branches, Built, branch_built, member_built}

numbers_width : (j : ℕ) (bs : TypedBranches) → length (numbers j bs) ≡ width bs
numbers_width j no_branches = refl
numbers_width j (more_branches copies s bs) = ap suc (numbers_width (suc j) bs)

module _ (n : ℕ)
  where
    -- of a site: no more branches than that
    abbrev Few : Site → Type 0
    Few (fork_site forking bodies copies) = length bodies ≤ n
    Few (spread_site forking body slot) = Unit {0}
    Few (block_site effects) = Unit {0}
    Few (call_site class row formals regions) = Unit {0}
    Few (new_site class formals regions) = Unit {0}
    Few (array_site region value) = Unit {0}

    abbrev OfNarrow : Branch → Type 0
    OfNarrow b = Narrow n b.stmt

    -- a piece whose sites are few, with narrow branches
    record Slim (a : Piece) : Type 0 where
      sites : All Few a.sites
      branches : All OfNarrow a.branches

    both : {a b : Piece} → Slim a → Slim b → Slim (beside a b)
    unfolding beside
    both {a} {b} x y = record { sites = All-append Few a.sites b.sites x.sites y.sites; branches = All-append OfNarrow a.branches b.branches x.branches y.branches }

    skip : {a : Piece} (x : Instr) (at : Place) → Slim a → Slim (line x at a)
    unfolding line
    skip x at y = record { sites = y.sites; branches = y.branches }

    site : {a : Piece} (s : Site) → Few s → Slim a → Slim (with_site s a)
    unfolding with_site
    site s few y = record { sites = All-cons Few s [] few (All-nil Few); branches = y.branches }

    its_text : {a : Piece} (t : List ℕ) → Slim a → Slim (with_text t a)
    unfolding with_text
    its_text t y = record { sites = y.sites; branches = y.branches }

    stop_here : Slim nothing
    stop_here = record { sites = All-nil Few; branches = All-nil OfNarrow }

    branch : {a : Piece} (bs : List Branch) → All OfNarrow bs → Slim a → Slim (with_branches bs a)
    unfolding with_branches
    branch bs narrow y = record { sites = y.sites; branches = narrow }

    few_of : (s : Site) → has_branches s ≡ false → Few s
    few_of (fork_site forking bodies copies) e = absurd (let h : true ≡ false = e in cc)
    few_of (spread_site forking body slot) e = tt
    few_of (block_site effects) e = tt
    few_of (call_site class row formals regions) e = tt
    few_of (new_site class formals regions) e = tt
    few_of (array_site region value) e = tt

    all_of_narrow : (s j : ℕ) (bs : TypedBranches) → BranchesNarrow n bs → All OfNarrow (branches_of s j bs)
    all_of_narrow s j no_branches narrow = All-nil OfNarrow
    all_of_narrow s j (more_branches copies t bs) narrow = All-cons OfNarrow _ _ narrow.0 (all_of_narrow s (suc j) bs narrow.1)

    spread_slim : (number body x : ℕ) (at : Place) (forking : Forking) (takes : Option ℕ) (s : TypedStmt) → Narrow n s →
        Slim (with_branches (record { title = of_branch number 0; takes = takes; stmt = s } ∷ [])
        (with_site (spread_site forking body x) (line (i.Spread number) at (line i.Join at nothing))))
    spread_slim number body x at forking takes s narrow = branch _ (All-cons OfNarrow _ [] narrow (All-nil OfNarrow)) (site _ tt (skip _ _ (skip _ _ stop_here)))

    slim_built : Built (Narrow n) (λ p a q m. Slim a)
    slim_built = record {
      stop = λ p. stop_here;
      next = λ x at e h. skip x at h;
      both = λ h j. both h j;
      sited = λ s e h. site s (few_of s e) h;
      texted = λ t h. its_text t h;
      cobegin = λ k p at forking bs h.
          branch _ (all_of_narrow k.site 0 bs h.1) (site _ (subst (λ m. m ≤ n) (sym (numbers_width k.body bs)) h.0) (skip _ _ (skip _ _ stop_here)));
      foreach = λ k p at forking x start count s h. spread_slim k.site k.body x at forking None s h;
      foreach_parts = λ k p at x source count s h. spread_slim k.site k.body (x + 4) at Deterministic (Some x) s h;
    }

    branch_slim : (k : Next) (at : Place) (s : TypedStmt) (takes : Option ℕ) → Narrow n s → Slim (branch_piece_of k at s takes)
    branch_slim = branch_built (Narrow n) (λ p a q m. Slim a) (parts_narrow n) slim_built

    abbrev pub OfMember : PlainMember → Type 0
    OfMember m = AllNarrow n m.body

    member_slim : (k : Next) (m : PlainMember) → OfMember m → Slim (member_piece k m)
    member_slim k m h = member_built (Narrow n) (λ p a q m. Slim a) (parts_narrow n) slim_built k m.body (closes m) (each_narrow n m.body h)

    -- all that a queue leads to
    generated_few : (count : ℕ) (m : PlainMember) (k : Next) (todo : List Branch) → All OfNarrow todo → All Few (generate count m k todo).sites
    generated_few zero m k todo h = All-nil Few
    generated_few (suc count) m k [] h = All-nil Few
    generated_few (suc count) m k (b ∷ todo) h =
        let a = branch_piece k b in
        let slim = branch_slim k (place_of b.stmt) b.stmt b.takes (All-head OfNarrow b todo h) in
        let rest = All-append OfNarrow todo a.branches (All-tail OfNarrow b todo h) slim.branches in
        All-append Few a.sites _ slim.sites (generated_few count m (past k a) (todo ++ a.branches) rest)

    output_few : (k : Next) (m : PlainMember) → OfMember m → All Few (member_output k m).sites
    output_few k m h =
        let a = member_piece (in_member k) m in
        let slim = member_slim (in_member k) m h in
        All-append Few a.sites _ slim.sites (generated_few (weight_all m.body) m (past (in_member k) a) a.branches slim.branches)

    outputs_few : (k : Next) (ms : List PlainMember) → All OfMember ms → All Few (members_output k ms).sites
    outputs_few k [] h = All-nil Few
    outputs_few k (m ∷ ms) h =
        All-append Few (member_output k m).sites _ (output_few k m (All-head OfMember m ms h))
        (outputs_few (past_output k (member_output k m)) ms (All-tail OfMember m ms h))

    compiled_few : (P : PlainProgram) → All OfMember P.members → All Few (compiled P).sites
    unfolding compiled
    compiled_few P h = outputs_few first P.members h

-- sites of the code, of which the plain ones are few
site_few : (n : ℕ) → n < 2 ^ 31 → (s : DeclaredSite) → Few n (plain_site s) → IsWidthBounded s
site_few n small (declared.Fork forking bodies copies) few = omega (arith, small, few)
site_few n small (declared.Spread forking body slot) few = tt
site_few n small (declared.Block effects) few = tt
site_few n small (declared.Call class row formals regions) few = tt
site_few n small (declared.New class formals regions) few = tt
site_few n small (declared.Array region value) few = tt

sites_few : (n : ℕ) → n < 2 ^ 31 → (sites : List DeclaredSite) → All (Few n) (map plain_site sites) → All IsWidthBounded sites
sites_few n small [] h = All-nil IsWidthBounded
sites_few n small (s ∷ sites) h =
    All-cons IsWidthBounded s sites (site_few n small s (All-head (Few n) (plain_site s) (map plain_site sites) h))
    (sites_few n small sites (All-tail (Few n) (plain_site s) (map plain_site sites) h))

pub code_few : (n : ℕ) → n < 2 ^ 31 → (P : PlainProgram) → All (OfMember n) P.members → (code : Code) → plain_code code ≡ compiled P → All IsWidthBounded code.sites
code_few n small P h code is =
    sites_few n small code.sites (subst (λ (C : PlainCode). All (Few n) C.sites) (sym is) (compiled_few n P h))

-- A program whose code has few branches at each fork has few in each construct of its text.
use Rattle.std.proofs.Common.{◌≡◌, ◌<◌, ◌^◌, ℕ, zero, suc, List, [], ◌∷◌, length, map, sym, ap, ◌∙◌, subst, arith, Some, None, slice_get}
use Rattle.std.specs.Prelude.{All}
use Rattle.std.proofs.lemmas.List.Elements.{All-head, All-tail}
use Rattle.lang_typed.specs.declared.stmt.Forking.{Forking}
use Rattle.lang_typed.specs.Plain.{PlainProgram, TypedStmt, statement, TypedStmts, TypedBranches, no_branches, more_branches}
use Rattle.lang_typed.specs.Plain.{StmtForm as form}
use Rattle.code_instrs.specs.Plain.{Line, PlainCode, fork_site, plain_code, plain_site}
use Rattle.code_instrs.specs.declared.code.Code.{Code}
use Rattle.code_instrs.specs.declared.code.Site.{Site as DeclaredSite}
use Rattle.code_instrs.specs.declared.code.Site.TheVariants as site
use Rattle.code_scheme.specs.Stands.{StmtAt, StmtsAt, BranchesAt}
use Rattle.code_scheme.specs.Whole.{compiled}
use Rattle.code_scheme.proofs.Whole.{laid_out}
use Rattle.exec_task.specs.Halts.{IsWidthBounded}
use Rattle.runs_sound.proofs.numbers.Small.{most, HasFew}
use Rattle.lang_typed.proofs.Narrow.{width, Narrow, AllNarrow, NarrowHere, all_narrow, narrow_by}
use Rattle.lang_typed.proofs.Parts.{all_handed_on}
use Rattle.code_scheme.proofs.Placed.{each_somewhere, parts_somewhere}

-- each fork of the code has few bodies
abbrev SitesFew : PlainCode → Type 0
SitesFew C = (n : ℕ) (forking : Forking) (js : List ℕ) (copies : List (List ℕ)) → slice_get C.sites n ≡ Some (fork_site forking js copies) → length js < 2 ^ 32

site_few : (s : DeclaredSite) (forking : Forking) (js : List ℕ) (copies : List (List ℕ)) → IsWidthBounded s → plain_site s ≡ fork_site forking js copies → length js < 2 ^ 32
site_few (site.Fork kind bodies cs) forking js copies few e = (let same : bodies ≡ js = cc in let n = ap (λ (l : List ℕ). length l) same in omega (arith, few, n))
site_few (site.Spread kind body slot) forking js copies few e = absurd (cc)
site_few (site.Block effects) forking js copies few e = absurd (cc)
site_few (site.Call class row formals regions) forking js copies few e = absurd (cc)
site_few (site.New class formals regions) forking js copies few e = absurd (cc)
site_few (site.Array region first) forking js copies few e = absurd (cc)

sites_few : (ss : List DeclaredSite) → All IsWidthBounded ss → (n : ℕ) (forking : Forking) (js : List ℕ) (copies : List (List ℕ))
    → slice_get (map plain_site ss) n ≡ Some (fork_site forking js copies) → length js < 2 ^ 32
sites_few [] few n forking js copies e = absurd (let none : None ≡ Some (fork_site forking js copies) = e in cc)
sites_few (s ∷ ss) few zero forking js copies e =
    site_few s forking js copies (All-head IsWidthBounded s ss few) (let same : Some (plain_site s) ≡ Some (fork_site forking js copies) = e in cc)
sites_few (s ∷ ss) few (suc n) forking js copies e = sites_few ss (All-tail IsWidthBounded s ss few) n forking js copies e

module _ (C : PlainCode) (few : SitesFew C) where
  many_at : (bs : TypedBranches) (js : List ℕ) → BranchesAt C bs js → width bs ≡ length js
  many_at no_branches js h = sym (ap (λ (l : List ℕ). length l) h)
  many_at (more_branches copies s bs) js h = ap (λ n. suc n) (many_at bs h.1 h.4) ∙ sym (ap (λ (l : List ℕ). length l) h.2)

  few_here : (at : List Line × ℕ) (s : TypedStmt) → StmtAt C at.0 at.1 s → NarrowHere most s
  few_here i (statement at (form.cobegin forking bs)) h = let n = many_at bs h.0 h.2 in let l = few h.1.forks.number forking h.0 _ h.1.forks.site_is in omega (arith, n, l)
  few_here i s h = tt

  few_stmts : (c : List Line) (p : ℕ) (ss : TypedStmts) → StmtsAt C c p ss → AllNarrow most ss
  few_stmts c p ss h =
      all_narrow most ss (all_handed_on (List Line × ℕ) (λ i s. StmtAt C i.0 i.1 s) (Narrow most) (parts_somewhere C)
      (λ i s at each. narrow_by most s (few_here i s at) each) ss (each_somewhere C c p ss h))

pub has_few : (P : PlainProgram) (code : Code) → plain_code code ≡ compiled P → All IsWidthBounded code.sites → HasFew P
has_few P code is few n m there =
    few_stmts (compiled P) (subst SitesFew is (λ n forking js copies e. sites_few code.sites few n forking js copies e)) _ 0 m.body ((laid_out P).members n m there).stmts

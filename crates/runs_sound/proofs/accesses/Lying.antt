-- Each access of a run lies in the effects of its task and of each above it, and in those of the block that its task stands inside.
use Rattle.std.proofs.Common.{◌≡◌, ◌⊎◌, ⊎_elim, ℕ, ℤ, Bool, true, List, ◌∷◌, ◌++◌, sym, ap, ◌∙◌, subst}
use Rattle.std.proofs.lemmas.Bool.{cases_Bool}
use Rattle.lang_typed.specs.Plain.{PlainProgram}
use Rattle.runs_theory.specs.Actions.{Program}
use Rattle.runs_theory.specs.Objects.{Effect, Name, Path}
use Rattle.runs_theory.specs.Runs.{Event, Faithful, Run, Upto, mine}
use Rattle.runs_theory.specs.Standing.{Inside, Outside, standing}
use Rattle.runs_program.specs.Steps.{stepped}
use Rattle.runs_sound.specs.Accesses.{InOwnRegion, LiesIn, LiesInEntry, is_guarded}
use Rattle.runs_sound.specs.Soundness.{AccessLies, Accesses, InBlockRegion, LiesThroughout, is_inside, reads, writes}
use Rattle.runs_sound.proofs.accesses.Free.{Lies, access, access_lies, lies_up, path_up}
use Rattle.runs_sound.proofs.accesses.Guarding.{stands_at, stands_outside}
use Rattle.runs_sound.proofs.moments.Sound.{Accessed, EventOk, Sound, branches_of, made_of}

module _ (P : PlainProgram) (arg : ℤ) {N : ℕ} {R : Run} (l : Faithful (stepped P arg) R) (s : Sound P (stepped P arg) N R) where
  abbrev Q : Program
  Q = stepped P arg

  module _ {Y : Run} {y : Event} (u : Upto (y ∷ Y) R) {n : Name} {i : ℤ} {write : Bool} (h : Accessed P (s.keeping y.path) s.shapes (mine Y y.path) n i write) where
    guard_is : is_guarded (s.keeping y.path).bounds h.state.entries ≡ is_inside (standing Y y.path)
    guard_is = ⊎_elim (λ t. t ∙ sym (ap is_inside (stands_at P arg l s u h t).block.stands))
        (λ f. f ∙ sym (ap is_inside (stands_outside P arg l s u h.state.entries h.held f))) (cases_Bool (is_guarded (s.keeping y.path).bounds h.state.entries))

    in_block : (o : Path) (E : List Effect) → standing Y y.path ≡ Inside o E → LiesInEntry E (access h) ⊎ InBlockRegion (made_of (s.keeping o)) (mine Y o) o (access h).region
    in_block o E st = ⊎_elim inside
        (λ f. absurd (let z : Outside ≡ Inside o E = sym (stands_outside P arg l s u h.state.entries h.held f) ∙ st in cc)) (cases_Bool (is_guarded (s.keeping y.path).bounds h.state.entries))
      where
        inside : is_guarded (s.keeping y.path).bounds h.state.entries ≡ true → LiesInEntry E (access h) ⊎ InBlockRegion (made_of (s.keeping o)) (mine Y o) o (access h).region
        inside t =
            let z = stands_at P arg l s u h t in
            let k : Inside z.block.opener z.block.effects ≡ Inside o E = sym z.block.stands ∙ st in
            let a : z.block.opener ≡ o = cc in
            let c : z.block.effects ≡ E = cc in
            subst (λ q. LiesInEntry E (access h) ⊎ InBlockRegion (made_of (s.keeping q)) (mine Y q) q (access h).region) a
            (subst (λ F. LiesInEntry F (access h) ⊎ InBlockRegion (made_of (s.keeping z.block.opener)) (mine Y z.block.opener) z.block.opener (access h).region) c z.lies)

    in_each : (xs q : Path) → y.path ≡ xs ++ q → LiesIn (s.keeping q).bounds.setting (s.keeping q).bounds.effects (access h) ⊎ InOwnRegion q (access h).region
    in_each xs q e =
        subst (λ p. LiesIn (s.keeping q).bounds.setting (s.keeping q).bounds.effects (access h) ⊎ InOwnRegion p (access h).region) (path_up P arg l s xs q u e)
        (lies_up P arg l s xs q u e (access h) (subst (λ p. Lies (s.keeping p).bounds (access h)) e (access_lies h))).effects

    lies : AccessLies P (λ p. (s.keeping p).bounds) (λ p. made_of (s.keeping p)) s.shapes Y y.path n i write
    lies = record {
      cell = record {
        shape = h.reaches.cell.shape;
        is = h.grown n h.reaches.cell.shape h.reaches.cell.is;
        env = h.reaches.cell.env;
        ty = h.reaches.cell.ty;
        rpl = h.reaches.cell.rpl;
        cell = h.reaches.cell.cell;
      };
      lies = subst (λ g. LiesThroughout (λ p. (s.keeping p).bounds) (λ p. made_of (s.keeping p)) Y y.path (record (access h) { guarded = g })) guard_is
          (record { above = in_each; block = in_block });
    }

  pub access_lies_throughout : (y : Event) (Y : Run) (n : Name) (i : ℤ) (write : Bool) → Upto (y ∷ Y) R → Accesses y n i write →
      AccessLies P (λ p. (s.keeping p).bounds) (λ p. made_of (s.keeping p)) s.shapes Y y.path n i write
  access_lies_throughout y Y n i write u (reads act) = lies u (subst (λ c. EventOk P Q (s.keeping y.path) (branches_of P Q s.keeping y.path) s.shapes Y y.path c) act (s.events y Y u))
  access_lies_throughout y Y n i write u (writes act) = lies u (subst (λ c. EventOk P Q (s.keeping y.path) (branches_of P Q s.keeping y.path) s.shapes Y y.path c) act (s.events y Y u))

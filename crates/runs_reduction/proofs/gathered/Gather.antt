-- The gathered run is valid.
use Rattle.std.proofs.Common.{◌≡◌, true≢false, [], ◌∷◌, refl, sym, ap, ◌∙◌, subst}
use Rattle.runs_theory.specs.Actions.{Program, Rule}
use Rattle.runs_theory.specs.Blocks.{hold}
use Rattle.runs_theory.specs.Meaning.{Disciplined, Known}
use Rattle.runs_theory.specs.Objects.{Path}
use Rattle.runs_theory.specs.Runs.{Event, Run, Upto, later, mine, now}
use Rattle.runs_theory.specs.Standing.{Inside, Outside, Standing, Valid, above, joined_by, standing}
use Rattle.runs_reduction.specs.Gathered.{block_of, block_spot, gather}
use Rattle.runs_reduction.specs.Guarded.{ConflictsGuarded}
use Rattle.runs_reduction.specs.Insertion.{All_of, put_after}
use Rattle.runs_theory.proofs.events.Upto.{upto_trans}
use Rattle.runs_theory.proofs.runs.Standing.{above_mine}
use Rattle.runs_reduction.proofs.shifts.Under.{Under, under_root, true_of}
use Rattle.runs_reduction.proofs.shifts.Insertion.{rearranged_step, rearranged_nil, Rebuilt, Side, rebuilt_in}
use Rattle.runs_reduction.proofs.gathered.Block.{block_side}

pub guarded_upto : {rule : Rule} {B R : Run} → Upto B R → ConflictsGuarded rule R → ConflictsGuarded rule B
guarded_upto h f = record { each = λ Y X y x hy hx u c. f.each Y X y x (upto_trans hy h) hx u c }

pub rebuilt_nil : (P : Program) → Rebuilt P [] []
rebuilt_nil P = record { valid = tt; same = λ p. refl; lasts = λ c. refl }

module _ (P : Program) (D : Disciplined P) (known : Known P) where
  -- an event that belongs after all
  pub top_side : (R G0 : Run) (e : Event) → Side P D known R G0 e (All_of []) []
  top_side R G0 e = record {
    here = under_root e.path;
    test = λ x v. true_of [] x.path v;
    down = λ x G t hx n full b. absurd (true≢false (sym (true_of [] x.path (under_root x.path)) ∙ n));
    clashes = λ {y} hy ne full b cf. ne (under_root y.path);
    enters_over = λ {y} E F hy ne full b ya ea sy se. absurd (ne (under_root y.path));
    enters_here = λ {Z} E hz b full ea ce. record { clear = λ w r F h. ce.clear (sym (same Z full e.path) ∙ w) r F (sym (same Z full r) ∙ h) };
  }
    where
      same : (Z : Run) → ((r : Path) → Under [] r → mine Z r ≡ mine R r) → (p : Path) → standing Z p ≡ standing R p
      same Z full p = ap (λ b. joined_by b p (hold (mine Z p))) (above_mine Z R (λ r. full r (under_root r)) p)
          ∙ ap (λ m. joined_by (above R p) p (hold m)) (full p (under_root p))

  pub gathered : (R : Run) → Valid P R → ConflictsGuarded P.rule R → Rebuilt P R (gather R)
  gathered [] l f = subst (Rebuilt P []) (sym (rearranged_nil block_spot)) (rebuilt_nil P)
  gathered (e ∷ R) l f = subst (Rebuilt P (e ∷ R)) (sym (rearranged_step block_spot e R))
      (go (gathered R l.1 (guarded_upto (later now) f)) (standing R e.path) refl)
    where
      go : Rebuilt P R (gather R) → (h : Standing) → standing R e.path ≡ h → Rebuilt P (e ∷ R) (put_after (block_of h) e (gather R))
      go g Outside k = rebuilt_in P D known R (gather R) e (All_of []) [] l g (top_side R (gather R) e)
      go g (Inside o E) k = rebuilt_in P D known R (gather R) e (All_of o) o l g (block_side P D known R (gather R) e o E l g f k)

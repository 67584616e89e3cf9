-- Loops of the elision.
use Rattle.std.proofs.Common.{◌≡◌, ℕ, zero, suc, Bool, true, false}
use Rattle.std.proofs.Common.{arith}
use Rattle.std.specs.Prelude.{ℤ}
use Rattle.lang_typed.specs.Plain.{PlainProgram}
use Rattle.lang_meaning.specs.Values.{Value}
use Rattle.lang_meaning.specs.Actions.{Frame as FrameOver}
use Rattle.lang_meaning.specs.Asking.{ticked, reported}
use Rattle.lang_meaning.specs.Core.{Goes_on, Returns, Prog, Done, bind, loop, tested, rounded, run}
use Rattle.lang_meaning.specs.Counts.{truth}
use Rattle.lang_meaning.specs.Elision.{LocalRegion as Counted, Store, one_tick, sequential}
use Rattle.lang_meaning.specs.Tasks.{again}
use Rattle.runs_theory.specs.Actions.{Program}
use Rattle.runs_theory.specs.Objects.{LocalRegion, Name, Path}
use Rattle.runs_program.specs.Steps.{named_by, stepped}
use Rattle.runs_elision.proofs.Worlds.{Names, Distinct, Later, later_none, later_then, FrameLike}
use Rattle.runs_elision.proofs.Worlds.{ResultLike, goes_on_like, returns_like, result_later}
use Rattle.runs_elision.proofs.Counts.{truth_like}
use Rattle.lang_meaning.proofs.Ticks.{loops_again}
use Rattle.runs_elision.proofs.Simulation.{ReportedOf, ResultOf, ResultIn, OutOf, OutIn}
use Rattle.runs_elision.proofs.Simulation.{Sim, sim_done, sim_same, sim_bind, sim_tick}

module _ (P : PlainProgram) (arg : ℤ) where
  abbrev Q : Program
  Q = stepped P arg

  -- a loop
  abbrev looped : (t b : FrameOver ℕ Counted → Prog ℕ Counted) → ℕ → FrameOver ℕ Counted → Store → OutIn ResultIn
  looped t b n f w = loop (λ v. one_tick v.ticks v) (λ g v. run sequential (t g) v) (λ g v. run sequential (b g) v) n f w

  module _ (path : Path) (d : ℕ) (t b : FrameOver ℕ Counted → Prog ℕ Counted) (s a : FrameOver Name LocalRegion → Prog Name LocalRegion) (ns : Names)
      (ht : (c : ℕ) (ms : Names) (f : FrameOver ℕ Counted) (g : FrameOver Name LocalRegion) → Later ns ms → FrameLike d ms f g
      → Sim P arg (ResultLike d) c ms (λ u. run (reported (named_by path)) (s g) u) (λ w. run sequential (t f) w))
      (hb : (c : ℕ) (ms : Names) (f : FrameOver ℕ Counted) (g : FrameOver Name LocalRegion) → Later ns ms → FrameLike d ms f g
      → Sim P arg (ResultLike d) c ms (λ u. run (reported (named_by path)) (a g) u) (λ w. run sequential (b f) w)) where
    abbrev again_reported : FrameOver Name LocalRegion → ReportedOf → OutOf ResultOf
    again_reported g u = again (named_by path) s a g u

    abbrev Loops : ℕ → Type 0
    Loops n = (ms : Names) (f : FrameOver ℕ Counted) (g : FrameOver Name LocalRegion) → Later ns ms → FrameLike d ms f g
        → Sim P arg (ResultLike d) n ms (λ u. again_reported g u) (λ w. looped t b n f w)

    at_round : (n : ℕ) → Loops n → (ms : Names) (x : ResultIn) (y : ResultOf) → Later ns ms → ResultLike d ms x y
        → Sim P arg (ResultLike d) n ms (λ u. rounded (λ g v. again_reported g v) y u) (λ w. rounded (λ g v. looped t b n g v) x w)
    at_round n h ms _ _ l (returns_like {v = v} {u = u} e z) = sim_done P arg (Returns v) (Returns u) (λ ls l'. result_later l' (returns_like e z))
    at_round n h ms _ _ l (goes_on_like {f = f} {g = g} z k) = h ms f g l k

    at_truth : (n : ℕ) → Loops n → (ms : Names) → Later ns ms → (x y : Bool) → x ≡ y → (v : Value ℕ)
        (u : Value Name) (f : FrameOver ℕ Counted) (g : FrameOver Name LocalRegion) → ResultLike d ms (Goes_on v f) (Goes_on u g)
        → FrameLike d ms f g
        → Sim P arg (ResultLike d) (suc n) ms
        (λ w. elim y as (λ b. OutOf ResultOf) [
          | false ↦ Done (Goes_on u g) w
          | true ↦ bind (ticked w) (λ u w'. bind (run (reported (named_by path)) (a g) w') (λ r w''. rounded (λ g v. again_reported g v) r w''))
        ])
        (λ w. elim x as (λ b. OutIn ResultIn) [
          | false ↦ Done (Goes_on v f) w
          | true ↦ bind (one_tick w.ticks w) (λ u w'. bind (run sequential (b f) w') (λ r w''. rounded (λ g v. looped t b n g v) r w''))
        ])
    at_truth n h ms l true true e v u f g z k = sim_tick P arg (sim_bind P arg (hb n ms f g l k) (λ ls x y l' r. at_round n h ls x y (later_then l l') r))
    at_truth n h ms l true false e v u f g z k = absurd (cc)
    at_truth n h ms l false true e v u f g z k = absurd (cc)
    at_truth n h ms l false false e v u f g z k = sim_done P arg (Goes_on v f) (Goes_on u g) (λ ls l'. result_later l' z)

    at_test : (n : ℕ) → Loops n → (ms : Names) (x : ResultIn) (y : ResultOf) → Later ns ms → ResultLike d ms x y
        → Sim P arg (ResultLike d) (suc n) ms (λ u. tested ticked (λ g v. run (reported (named_by path)) (a g) v) (λ g v. again_reported g v) y u)
        (λ w. tested (λ v. one_tick v.ticks v) (λ g v. run sequential (b g) v) (λ g v. looped t b n g v) x w)
    at_test n h ms _ _ l (returns_like {v = v} {u = u} e z) = sim_done P arg (Returns v) (Returns u) (λ ls l'. result_later l' (returns_like e z))
    at_test n h ms _ _ l (goes_on_like {v = v} {u = u} {f = f} {g = g} z k) =
        at_truth n h ms l (truth v) (truth u) (truth_like z) v u f g (goes_on_like z k) k

    sim_loop : (n : ℕ) → Loops n
    sim_loop zero ms f g l k = record { from = λ g' w t' K l' lt r. absurd (omega arith) }
    sim_loop (suc n) ms f g l k =
        sim_same P arg (λ u lw. loops_again (named_by path) s a g u lw)
        (sim_bind P arg (ht (suc n) ms f g l k) (λ ls x y l' r. at_test n (sim_loop n) ls x y (later_then l l') r))

    pub sim_again : (c : ℕ) (f : FrameOver ℕ Counted) (g : FrameOver Name LocalRegion) → Distinct ns → FrameLike d ns f g
        → Sim P arg (ResultLike d) c ns (λ u. again_reported g u) (λ w. looped t b (suc w.ticks) f w)
    sim_again c f g e k = record {
      from = λ h w t' K l lt r. (sim_loop (suc w.ticks) ns f g (later_none e) k).from h w t' K l (omega arith) r;
    }

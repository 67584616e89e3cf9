-- A machine that is never stuck comes out, whatever has been made so far.
use Rattle.std.proofs.Common.{◌≡◌, ◌+◌, ◌<◌, ◌≤◌, ℕ, suc, zero, ℤ, List, [], ◌∷◌, length, reverse, Option, Some, None, ⊎_elim, refl, sym, subst, arith}
use Rattle.std.proofs.lemmas.Bool.{cases_lt}
use Rattle.std.proofs.lemmas.List.{reverse-append, reverse-reverse}
use Rattle.lang_base.specs.declared.outcome.Limits.{Limits}
use Rattle.lang_base.specs.declared.outcome.Outcome.{Outcome}
use Rattle.code_instrs.specs.declared.code.Code.{Code}
use Rattle.code_instrs.specs.Plain.{plain_code}
use Rattle.exec_heap.specs.Heap.{instance, with_object}
use Rattle.exec_world.specs.Costs.{first_fields}
use Rattle.exec_world.specs.Ready.{IsReady}
use Rattle.exec_world.specs.World.{with_heap}
use Rattle.exec_world.specs.World.{at_start as world_at_start}
use Rattle.exec_machine.specs.Keeping.{IsAfter, IsReplayed, Played}
use Rattle.exec_machine.specs.Premise.{CanProgress}
use Rattle.exec_machine.specs.Replay.{IsStuck, LeadsTo, Moment, Moves, limited, no_room, opened, root_alone}
use Rattle.tool_total.proofs.Events.{next_moment}

module _ (code : Code) (L : Limits) (arg : ℤ) where
  -- a machine that has made a schedule, of which the latest number stands first
  abbrev pub played : List ℕ → Moment → Played
  played js n = record { code = code; limits = L; argument = arg; schedule = reverse js; world = n.world; outcome = n.outcome }

  abbrev pub replayed : (js : List ℕ) (n : Moment) → LeadsTo code L arg js n → IsReplayed (played js n)
  replayed js n leads = record { moment = n; leads = subst (λ l. LeadsTo code L arg l n) (sym (reverse-reverse js)) leads; world = refl; outcome = refl }

  pub made_next : (js : List ℕ) (m : Moment) (leads : LeadsTo code L arg js m) (k : ℕ) (n : Moment) → Moves code L m k n → IsAfter (played js m) k (played (k ∷ js) n)
  made_next js m leads k n moves = record {
    code = refl;
    limits = refl;
    argument = refl;
    schedule = reverse-append (k ∷ []) js;
    replayed = replayed js m leads;
    next = n;
    moves = moves;
    world = refl;
    outcome = refl;
  }

  abbrev with_main : Moment
  with_main = record {
    world = with_heap (world_at_start L) (with_object (world_at_start L).heap (instance code.main_class [] (first_fields code code.main_class)));
    tasks = root_alone code arg;
    outcome = None;
  }

  abbrev without_room : Moment
  without_room = record { world = world_at_start L; tasks = root_alone code arg; outcome = Some (limited L) }

  pub starts : (m : Moment) × LeadsTo code L arg [] m
  starts =
      ⊎_elim (λ (h : L.cells < length (first_fields code code.main_class) + 1). (without_room, no_room h refl))
      (λ (h : length (first_fields code code.main_class) + 1 ≤ L.cells). (with_main, opened h refl)) (cases_lt L.cells (length (first_fields code code.main_class) + 1))

  -- it has come out
  pub record Finishes : Type 0 where
    pub schedule : List ℕ
    pub moment : Moment
    pub outcome : Outcome
    pub leads : LeadsTo code L arg schedule moment
    pub came : moment.outcome ≡ Some outcome

  module _ (goes : CanProgress code L arg) (unstuck : (ks : List ℕ) (m : Moment) → LeadsTo code L arg ks m → (k : ℕ) → IsStuck (plain_code code) m k → ⊥) where
    pub next : (ks : List ℕ) (m : Moment) → LeadsTo code L arg ks m → m.outcome ≡ None → (k : ℕ) → IsReady m.world k → (n : Moment) × Moves code L m k n
    next ks m leads none k ready = next_moment code L m k (goes ks m leads) none ready (unstuck ks m leads k)

    module _ (some : (ks : List ℕ) (m : Moment) → LeadsTo code L arg ks m → m.outcome ≡ None → (k : ℕ) × IsReady m.world k) (most : ℕ)
        (short : (ks : List ℕ) (m : Moment) → LeadsTo code L arg ks m → length ks ≤ most) where
      abbrev Ends : ℕ → Type 0
      Ends fuel = (ks : List ℕ) (m : Moment) → LeadsTo code L arg ks m → most < fuel + length ks → Finishes

      on : (fuel : ℕ) → Ends fuel → (ks : List ℕ) (m : Moment) → LeadsTo code L arg ks m → most < suc fuel + length ks → (o : Option Outcome) → m.outcome ≡ o → Finishes
      on fuel more ks m leads enough None e =
          let r = some ks m leads e in
          let n = next ks m leads e r.0 r.1 in more (r.0 ∷ ks) n.0 (m, leads, n.1) (omega (arith, enough))
      on fuel more ks m leads enough (Some o) e = record { schedule = ks; moment = m; outcome = o; leads = leads; came = e }

      finish : (fuel : ℕ) → Ends fuel
      finish zero ks m leads enough = absurd (let few = short ks m leads in omega (arith, enough, few))
      finish (suc fuel) ks m leads enough = on fuel (finish fuel) ks m leads enough m.outcome refl

      pub finishes : Finishes
      finishes = finish (suc most) [] starts.0 starts.1 (omega arith)

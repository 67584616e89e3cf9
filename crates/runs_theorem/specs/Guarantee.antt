-- How a machine's run comes out, by the source alone.
use Rattle.std.specs.Prelude.{ℕ, ℤ, ◌≡◌, ◌≤◌, FitsSigned, false, List, [], All, Some, None}
use Rattle.std.specs.Int.{w32}
use Rattle.lang_base.specs.declared.outcome.Limits.{Limits}
use Rattle.lang_base.specs.declared.outcome.Outcome.{Outcome}
use Rattle.lang_typed.specs.Plain.{PlainProgram}
use Rattle.lang_typed.specs.Resolved.{Resolved, HasMain}
use Rattle.lang_typed.specs.WellTyped.{WellTyped}
use Rattle.lang_meaning.specs.Elision.{elided}
use Rattle.code_instrs.specs.Plain.{plain_code}
use Rattle.code_instrs.specs.declared.code.Code.{Code}
use Rattle.code_scheme.specs.Whole.{compiled}
use Rattle.exec_task.specs.Halts.{IsWidthBounded}
use Rattle.exec_machine.specs.declared.halted.Halted.TheVariants.{Stuck}
use Rattle.exec_machine.specs.Keeping.{Played, GreedilyOn, HaltsGreedily, HasEnded, IsReplayed}
use Rattle.exec_machine.specs.Replay.{IsStuck, LeadsTo, Moment}
use Rattle.lang_meaning.specs.Reported.{reported}

-- the serial elision of a program on the argument of `main`, within limits
abbrev pub elision : PlainProgram → Limits → ℤ → Outcome
elision P L argument = reported (elided P argument L)

-- a machine that has finished a run of the code of a well-typed program without nd constructs tells the outcome of its elision
abbrev pub MachinesComeOutAsElided : Type 0
MachinesComeOutAsElided =
    (P : PlainProgram) (p : Played) (o : Outcome) → WellTyped P → P.uses_nd ≡ false → Resolved P → HasMain P → plain_code p.code ≡ compiled P
    → p.limits.steps ≤ 20000000 → FitsSigned w32 p.argument → IsReplayed p → p.outcome ≡ Some o → o ≡ elision P p.limits p.argument

-- and of any resolved program with a `main`, nd constructs or not, well typed or not: a machine that has gone on from its start by steps of
-- the greatest ready task alone, and has finished, tells the outcome of the elision
abbrev pub GreedyMachinesElide : Type 0
GreedyMachinesElide =
    (P : PlainProgram) (start p : Played) (o : Outcome) → Resolved P → HasMain P → plain_code p.code ≡ compiled P → p.limits.steps ≤ 20000000
    → start.schedule ≡ [] → GreedilyOn start p → IsReplayed p → p.outcome ≡ Some o → o ≡ elision P p.limits p.argument

-- a machine on the code of a well-typed program is never stuck, within the limits that a job may have. No fork of the code has more
-- branches than a value counts: on other code no machine is opened
abbrev pub MachinesAreNotStuck : Type 0
MachinesAreNotStuck =
    (P : PlainProgram) (code : Code) (L : Limits) (argument : ℤ) → WellTyped P → Resolved P → HasMain P → plain_code code ≡ compiled P → All IsWidthBounded code.sites
    → L.steps ≤ 20000000 → L.cells ≤ 16777216 → FitsSigned w32 argument
    → (ks : List ℕ) (m : Moment) → LeadsTo code L argument ks m → (k : ℕ) → IsStuck (plain_code code) m k → ⊥

-- a machine on it that hasn't come out has a ready task, may make more events, and can make those of the greatest ready task
abbrev pub MachinesMakeProgress : Type 0
MachinesMakeProgress =
    (P : PlainProgram) (p : Played) → WellTyped P → Resolved P → HasMain P → plain_code p.code ≡ compiled P → All IsWidthBounded p.code.sites
    → p.limits.steps ≤ 20000000 → p.limits.cells ≤ 16777216 → FitsSigned w32 p.argument → IsReplayed p
    → (HaltsGreedily p Stuck → ⊥) × (p.outcome ≡ None → HasEnded p → ⊥)

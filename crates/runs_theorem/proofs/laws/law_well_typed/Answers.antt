use Rattle.runs_theorem.proofs.laws.law_well_typed.Goals as goal

pub returns-clause-runs : goal.returns-clause-runs
returns-clause-runs c P wt none arg small = c.law_determinism.ensures.runs P arg (c.law_runs.ensures.free P wt none arg small)

pub returns-clause-cost : goal.returns-clause-cost
returns-clause-cost c P wt none arg small = c.law_determinism.ensures.cost P arg (c.law_runs.ensures.free P wt none arg small)

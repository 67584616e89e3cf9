-- What is asked of a place in a body: what is around it for the checker is in scope for the judgement, and stands there as it should.
use Rattle.std.specs.Prelude.{◌≡◌, ◌<◌, ◌≤◌, ℕ, Bool, false, IsTrue, List, Some}
use Rattle.lang_typed.specs.Plain.{PlainProgram}
use Rattle.lang_typed.specs.Scope.{Scope, Local}
use Rattle.body_exprs.specs.declared.env.Env.{Env}
use Rattle.body_exprs.specs.Env.{table_of}
use Rattle.body_check.specs.declared.node.Around.{Around}
use Rattle.body_check.specs.Walks.{Walk}
use Rattle.sound_bodies.specs.Naming.{LocalsName}
use Rattle.sound_bodies.specs.Seen.{Tells, Sees, InStep, Returns}

-- the list says which region parameters are declared atomic
pub record Ready (P : PlainProgram) (L : Scope) (env : Env) (params : List Bool) (around : Around) (reads assigns : ℕ → Bool) : Type 0 where
  pub tells : Tells P (table_of env) L.member_nd_free
  pub sees : Sees P L env reads assigns
  pub step : InStep env
  pub locals : LocalsName L
  pub below : (x : ℕ) (l : Local) → L.local x ≡ Some l → x < env.slots
  pub regions : (r : ℕ) → IsTrue (L.regions r) → r < env.declared
  pub returns : Returns L env around
  pub atomic : L.atomic ≡ params

-- the member has slots and local regions for all that was declared
pub record Room (L : Scope) (env : Env) : Type 0 where
  pub slots : env.slots ≤ L.slots
  pub regions : env.declared ≤ L.local_regions

-- where nothing may reach an nd construct, none was reached
abbrev pub NdFree : Scope → Walk → Type 0
NdFree L u = IsTrue L.nd_free → u.found.reaches_nd ≡ false

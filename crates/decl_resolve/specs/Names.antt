-- Names in the order in which they came. Of two equal names the later is meant.
use Rattle.std.specs.Prelude.{◌≡◌, refl, ℕ, suc, ◌==◌, cond, List, [], ◌∷◌, map, take, slice_get, Option, Some, None}
use Rattle.std.specs.Ordering.{nat_cmp}
use Rattle.std.specs.BTreeMap.{get}
use Rattle.std.specs.declared.collections.BTreeMap.{BTreeMap}
use Rattle.std.specs.declared.alloc.Global.{Global}
use Rattle.std.specs.Coded.{Coded, code_by, coded×, coded_list, coded_ℕ}
use Rattle.decl_resolve.specs.declared.scoped.Named.{Named}

-- names in the order in which they came, and the value of each
pub record Names (T : Type 0) : Type 0 where
  pub names : List ℕ
  pub values : List T

abbrev pub names_code : {T : Type 0} → Coded T → Coded (Names T)
names_code {T} code =
    code_by (List ℕ × List T) (coded× (coded_list coded_ℕ) (coded_list code)) (λ n. (n.names, n.values)) (λ p. record { names = p.0; values = p.1 }) (λ _. refl)

-- the place of the last of a name among names that are counted on from a number; this one, where there is none
abbrev pub last_from : ℕ → Option ℕ → List ℕ → ℕ → Option ℕ
last_from at found [] name = found
last_from at found (other ∷ names) name = last_from (suc at) (cond (other == name) (Some at) found) names name

-- the place of the last of a name among names, from 0
abbrev pub last_place : List ℕ → ℕ → Option ℕ
last_place names name = last_from 0 None names name

abbrev pub plain_names : List Named → List ℕ
plain_names names = map (λ named. named.name) names

-- each knows the place of the one before it with the same name
abbrev pub KnowHidden : List Named → Type 0
KnowHidden names = (k : ℕ) (named : Named) → slice_get names k ≡ Some named → named.hidden ≡ last_place (take k (plain_names names)) named.name

-- the place under a name is another one, or there is none now, and every other name has what it had
abbrev pub HasMoved : BTreeMap ℕ ℕ Global → ℕ → Option ℕ → BTreeMap ℕ ℕ Global → Type 0
HasMoved old name place new = (other : ℕ) → get nat_cmp new other ≡ cond (name == other) place (get nat_cmp old other)

-- under each name the place of its last stands
abbrev pub ShowsLast : List Named → BTreeMap ℕ ℕ Global → Type 0
ShowsLast names spots = (name : ℕ) → get nat_cmp spots name ≡ last_place (plain_names names) name

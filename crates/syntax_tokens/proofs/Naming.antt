-- A set of names, seen as the list of their bytes.
use Rattle.std.proofs.Common.{◌≡◌, ◌||◌, ℕ, Bool, true, false, cond, List, [], ◌∷◌, ◌++◌, Some, map, slice_get, refl, ap, arith}
use Rattle.std.specs.List.{list_any}
use Rattle.std.specs.Str.{bytes_eq}
use Rattle.std.proofs.lemmas.Option.{slice_get-map}
use Rattle.std.proofs.lemmas.Slice.Eq.{bytes_eq-Decides}
use Rattle.indexmap.specs.IndexSet.{insert_key}
use Rattle.syntax_tokens.specs.Says.{with_name}

map-following : {K : Type 0} (f : K → List ℕ) (ks : List K) (k : K) → map f (ks ++ k ∷ []) ≡ map f ks ++ f k ∷ []
map-following f [] k = refl
map-following f (x ∷ ks) k = ap (λ names. f x ∷ names) (map-following f ks k)

any-named : {K : Type 0} (f : K → List ℕ) (ks : List K) (k : K) → list_any (λ other. bytes_eq (f k) (f other)) ks ≡ list_any (bytes_eq (f k)) (map f ks)
any-named f [] k = refl
any-named f (x ∷ ks) k = ap (λ found. bytes_eq (f k) (f x) || found) (any-named f ks k)

chosen : {K : Type 0} (f : K → List ℕ) (ks : List K) (k : K) (b c : Bool) → b ≡ c → map f (cond b ks (ks ++ k ∷ [])) ≡ cond c (map f ks) (map f ks ++ f k ∷ [])
chosen f ks k true true e = refl
chosen f ks k false false e = map-following f ks k
chosen f ks k true false e = cc
chosen f ks k false true e = cc

-- a key goes last where its name is new
pub inserted-named : {K : Type 0} (f : K → List ℕ) (ks : List K) (k : K) → map f (insert_key (λ a b. bytes_eq (f a) (f b)) ks k) ≡ with_name (map f ks) (f k)
inserted-named f ks k = chosen f ks k _ _ (any-named f ks k)

-- the key at a place has the name that stands there
pub stored-named : {K : Type 0} (f : K → List ℕ) (ks : List K) (k stored : K) (at : ℕ) → slice_get ks at ≡ Some stored → bytes_eq (f k) (f stored) ≡ true → slice_get (map f ks) at ≡ Some (f k)
stored-named f ks k stored at is same = grind (arith, slice_get-map f ks at, is, bytes_eq-Decides (f k) (f stored), same)

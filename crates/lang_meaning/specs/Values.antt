-- What tasks handle: values, regions, objects and arrays. N names objects, and M local regions that a run has made.
use Rattle.std.specs.Prelude.{ℕ, ℤ, Bool, List}

pub data Value (N : Type 0) : Type 0 where
  Int : ℤ → Value N
  Boolean : Bool → Value N
  Null : Value N
  Object : N → Value N

-- an element of a region: a region name, a whole number, a made local region; in an array's region its own index; and in
-- effects any index, and any elements
pub data Part (M : Type 0) : Type 0 where
  Region_name : ℕ → Part M
  Number : ℤ → Part M
  Local : M → Part M
  Own_index : Part M
  Any_index : Part M
  Any_parts : Part M

abbrev pub Region : Type 0 → Type 0
Region M = List (Part M)

-- what is made: an object of a class with its region arguments and the first values of its fields, or an array with the
-- region of its elements, its length and the first value of each
pub data Thing (N M : Type 0) : Type 0 where
  An_object : (class : ℕ) (regions : List (Region M)) (fields : List (Value N)) → Thing N M
  An_array : (region : Region M) (len : ℕ) (element : Value N) → Thing N M

-- how objects and local regions are named: when two names are one, the local region that a task makes after so many, and
-- one that is declared and not made yet
pub record Naming (N M : Type 0) : Type 0 where
  pub same : N → N → Bool
  pub made : ℕ → M
  pub unmade : ℕ → M

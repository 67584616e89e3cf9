-- Region paths: what is fully specified, when one path lies in another, what is put in for a parameter.
use Rattle.std.specs.Prelude.{ℕ, Bool, true, false, not, ◌&&◌, ◌||◌, cond, ◌==◌, List, [], ◌∷◌, ◌++◌, map, slice_index_or}
use Rattle.std.specs.Ordering.{int_eq}
use Rattle.lang_base.specs.declared.elems.Elem.{Elem}
use Rattle.lang_base.specs.declared.elems.Elem.TheVariants.{Name, At, Any, Star, Local}
use Rattle.lang_base.specs.declared.elems.Index.{Index}
use Rattle.lang_base.specs.declared.elems.Index.TheVariants.{Literal, Variable, Renamed, Own}
use Rattle.lang_base.specs.declared.region.Head.{Head}
use Rattle.lang_base.specs.declared.region.Head.TheVariants.{Root, Param}
use Rattle.lang_base.specs.declared.region.Rpl.{Rpl}

abbrev pub is_star : Elem → Bool
is_star Star = true
is_star _ = false

abbrev pub is_any : Elem → Bool
is_any Any = true
is_any _ = false

abbrev pub is_local : Elem → Bool
is_local (Local _ _) = true
is_local _ = false

-- an index of any kind
abbrev pub is_index : Elem → Bool
is_index (At _) = true
is_index Any = true
is_index _ = false

abbrev pub same_index : Index → Index → Bool
same_index (Literal j) (Literal k) = int_eq j k
same_index (Variable v) (Variable w) = v == w
same_index (Renamed v) (Renamed w) = v == w
same_index (Own d) (Own e) = d == e
same_index _ _ = false

abbrev pub same_elem : Elem → Elem → Bool
same_elem (Name m) (Name n) = m == n
same_elem (At x) (At y) = same_index x y
same_elem Any Any = true
same_elem Star Star = true
same_elem (Local a b) (Local c d) = (a == c) && (b == d)
same_elem _ _ = false

abbrev pub same_head : Head → Head → Bool
same_head Root Root = true
same_head (Param p) (Param q) = p == q
same_head _ _ = false

abbrev pub is_root : Head → Bool
is_root Root = true
is_root (Param _) = false

-- neither `*` nor `[?]`
abbrev pub is_specified : Elem → Bool
is_specified x = not (is_star x || is_any x)

abbrev pub all_specified : List Elem → Bool
all_specified [] = true
all_specified (x ∷ xs) = is_specified x && all_specified xs

-- a path without `*` and without `[?]`
abbrev pub fully_specified : Rpl → Bool
fully_specified a = all_specified a.elems

-- one element lies in another: it is the same, or the other is `[?]` and it is an index
abbrev pub elem_within : Elem → Elem → Bool
elem_within x y = same_elem x y || (is_any y && is_index x)

-- the second list of elements lies in the first: element by element, where a `*` of the first takes up any
-- elements of the second but local regions
abbrev pub covers_elems : List Elem → List Elem → Bool
covers_elems [] [] = true
covers_elems [] (x ∷ a) = false
covers_elems (y ∷ b) [] = is_star y && covers_elems b []
covers_elems (y ∷ b) (x ∷ a) =
    cond (is_star y) (covers_elems b (x ∷ a) || (not (is_local x) && covers_elems (y ∷ b) a)) (elem_within x y && covers_elems b a)

abbrev pub begins_with_star : List Elem → Bool
begins_with_star [] = false
begins_with_star (x ∷ _) = is_star x

-- the heads are the same, or a parameter stands against a path that is `Root:*` and more
abbrev pub heads_within : Head → Head → List Elem → Bool
heads_within Root Root b = true
heads_within (Param p) (Param q) b = p == q
heads_within (Param p) Root b = begins_with_star b
heads_within Root (Param q) b = false

-- the first path lies in the second
unfoldable pub within : Rpl → Rpl → Bool
within a b = heads_within a.head b.head b.elems && covers_elems b.elems a.elems

-- a path and further elements after it
abbrev pub following : Rpl → List Elem → Rpl
following a elems = record { head = a.head; elems = a.elems ++ elems }

-- the argument for a parameter; where there is none, the parameter itself
abbrev pub argument : List Rpl → ℕ → Rpl
argument args p = slice_index_or args p (record { head = Param p; elems = [] })

abbrev pub put_at : Head → List Elem → List Rpl → Rpl
put_at Root elems args = record { head = Root; elems = elems }
put_at (Param p) elems args = following (argument args p) elems

-- a path with its argument put in for the parameter at its head
unfoldable pub substituted : List Rpl → Rpl → Rpl
substituted args a = put_at a.head a.elems args

abbrev pub general_elem : ℕ → Elem → Elem
general_elem v (At (Variable w)) = cond (v == w) Any (At (Variable w))
general_elem v x = x

-- a path with `[?]` for each index that is the variable
unfoldable pub generalised : ℕ → Rpl → Rpl
generalised v a = record { head = a.head; elems = map (general_elem v) a.elems }

-- Why an nd construct is reached: it was reached before, or it stands there, or a method is called that forks.
use Rattle.std.proofs.Common.{◌≡◌, ◌∙◌, ◌⊎◌, ℕ, Bool, true, false, ◌||◌, List, [], ◌∷◌, ◌++◌, inl, inr, Option, Some, None, refl}
use Rattle.std.proofs.lemmas.Bool.{false≢true, or_left, or_right, or_cases}
use Rattle.std.proofs.lemmas.List.Folds.{list_any-append}
use Rattle.std.specs.List.{list_any}
use Rattle.decl_table.specs.declared.table.Table.{Table}
use Rattle.decl_table.specs.Table.{is_forking}
use Rattle.body_exprs.specs.declared.found.Found.{Found}
use Rattle.body_exprs.specs.Targeting.{PlainSpot, to_field, to_element, to_part, PlainTarget, with_write}
use Rattle.body_check.specs.Gathering.{handed_on}

-- one of the methods forks
abbrev pub some_forks : Table → List ℕ → Bool
some_forks table ids = list_any (is_forking table) ids

abbrev pub Why : Table → Bool → Bool → List ℕ → Type 0
Why table before nd ids = (before ≡ true) ⊎ ((nd ≡ true) ⊎ (some_forks table ids ≡ true))

-- an nd construct is reached afterwards only for such a reason
abbrev pub Adds : Table → Bool → Bool → List ℕ → Bool → Type 0
Adds table before nd ids after = after ≡ true → Why table before nd ids

module _ (table : Table)
  where
    pub adds_none : (b : Bool) → Adds table b false [] b
    adds_none b h = inl h

    forks_left : (xs ys : List ℕ) → some_forks table xs ≡ true → some_forks table (xs ++ ys) ≡ true
    forks_left xs ys h = list_any-append (is_forking table) xs ys ∙ or_left (some_forks table xs) (some_forks table ys) h

    forks_right : (xs ys : List ℕ) → some_forks table ys ≡ true → some_forks table (xs ++ ys) ≡ true
    forks_right xs ys h = list_any-append (is_forking table) xs ys ∙ or_right (some_forks table xs) (some_forks table ys) h

    why_first : (a n m : Bool) (xs ys : List ℕ) → Why table a n xs → Why table a (n || m) (xs ++ ys)
    why_first a n m xs ys (inl h) = inl h
    why_first a n m xs ys (inr (inl h)) = inr (inl (or_left n m h))
    why_first a n m xs ys (inr (inr h)) = inr (inr (forks_left xs ys h))

    -- one piece after the other
    pub adds_then : (a b c n m : Bool) (xs ys : List ℕ) → Adds table a n xs b → Adds table b m ys c → Adds table a (n || m) (xs ++ ys) c
    adds_then a b c n m xs ys first second h = by (second h)
      where
        by : Why table b m ys → Why table a (n || m) (xs ++ ys)
        by (inl e) = why_first a n m xs ys (first e)
        by (inr (inl e)) = inr (inl (or_right n m e))
        by (inr (inr e)) = inr (inr (forks_right xs ys e))

    -- where nothing is added by what comes after or before it
    pub adds_more : (a b : Bool) (xs ys : List ℕ) → Adds table a false xs b → Adds table a false (xs ++ ys) b
    adds_more a b xs ys first h = why_first a false false xs ys (first h)

    pub adds_later : (a b : Bool) (xs ys : List ℕ) → Adds table a false ys b → Adds table a false (xs ++ ys) b
    adds_later a b xs ys first h = by (first h)
      where
        by : Why table a false ys → Why table a false (xs ++ ys)
        by (inl e) = inl e
        by (inr (inl e)) = inr (inl e)
        by (inr (inr e)) = inr (inr (forks_right xs ys e))

    -- a call
    pub adds_call : (a : Bool) (id : ℕ) → Adds table a false (id ∷ []) (a || is_forking table id)
    adds_call a id h = by (or_cases a (is_forking table id) h)
      where
        by : (a ≡ true) ⊎ (is_forking table id ≡ true) → Why table a false (id ∷ [])
        by (inl e) = inl e
        by (inr e) = inr (inr (or_left (is_forking table id) false e))

    -- a piece of which what is found is gathered by itself
    pub adds_apart : (a c n : Bool) (ys : List ℕ) → Adds table false n ys c → Adds table a n ys (a || c)
    adds_apart a c n ys inner h = by (or_cases a c h)
      where
        why : Why table false n ys → Why table a n ys
        why (inl e) = absurd (false≢true e)
        why (inr e) = inr e

        by : (a ≡ true) ⊎ (c ≡ true) → Why table a n ys
        by (inl e) = inl e
        by (inr e) = why (inner e)

    -- one that may be an nd construct itself
    pub adds_nd : (a c n nd : Bool) (ys : List ℕ) → Adds table a n ys c → Adds table a (nd || n) ys (c || nd)
    adds_nd a c n nd ys inner h = by (or_cases c nd h)
      where
        why : Why table a n ys → Why table a (nd || n) ys
        why (inl e) = inl e
        why (inr (inl e)) = inr (inl (or_right nd n e))
        why (inr (inr e)) = inr (inr e)

        by : (c ≡ true) ⊎ (nd ≡ true) → Why table a (nd || n) ys
        by (inl e) = why (inner e)
        by (inr e) = inr (inl (or_left nd n e))

-- a write, and uses that are handed on, reach none
pub write_same : (found : Found) (target : PlainTarget) → (with_write found target).reaches_nd ≡ found.reaches_nd
write_same found target = by target.spot
  where
    by : (spot : PlainSpot) → (with_write found (record target { spot = spot })).reaches_nd ≡ found.reaches_nd
    by (to_field of class slot) = refl
    by (to_element array index) = refl
    by (to_part part index) = refl

pub handed_same : (view : ℕ) (outer : Option ℕ) (found : Found) → (handed_on view outer found).reaches_nd ≡ found.reaches_nd
handed_same view None found = refl
handed_same view (Some outer) found = refl

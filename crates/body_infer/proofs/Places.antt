-- Where the slots of a scope stand, as entries come and go.
use Rattle.std.proofs.Common.{◌≡◌, ◌∙◌, ℕ, ◌+◌, ◌-◌, arith, nat_eq, Bool, true, false, cond, if◌then◌else◌, ◌==◌, List, [], ◌∷◌, ◌++◌, take, length, Option, None, Some, Result, Ok, Err, OnOk, OnErr, slice_get, refl, ap, sym, subst, append_assoc, length-append}
use Rattle.std.specs.Map.{lookup}
use Rattle.std.specs.Option.{option_flatten, option_map}
use Rattle.std.proofs.lemmas.Cmp.{nat_eq_equiv}
use Rattle.std.proofs.lemmas.List.{append-nil, map-append, take-take, take_all}
use Rattle.std.proofs.Math.Seq.{take-append_seam}
use borrow.Author.Tests.{eqb-true}
use Rattle.indexmap.specs.IndexMap.{IndexMap, get, Updates, IsUnchanged}
use Rattle.body_infer.specs.declared.scope.Entry.{Entry}
use Rattle.body_infer.specs.declared.scope.Known.{Known}
use Rattle.body_infer.specs.Walked.{last_of}
use Rattle.body_infer.specs.Places.{placed_in, last_place, place_of, found_place, SayHidden, FindsPlaces}

-- what stands at a place
abbrev known_at : List Entry → Option ℕ → Option Known
known_at entries None = None
known_at entries (Some at) = option_map (λ (e : Entry). e.placed.known) (slice_get entries at)

seam : (xs ys : List Entry) (y : Entry) → slice_get (xs ++ y ∷ ys) (length xs) ≡ Some y
seam [] ys y = refl
seam (x ∷ xs) ys y = seam xs ys y

known_from : (slot : ℕ) (before entries : List Entry) (k : Option Known) (found : Option ℕ) → k ≡ known_at (before ++ entries) found
    → last_of slot k (placed_in entries) ≡ known_at (before ++ entries) (last_place slot (length before) found entries)
known_from slot before [] k found h = h
known_from slot before (e ∷ es) k found h =
    let more : length (before ++ e ∷ []) ≡ length before + 1 = length-append before (e ∷ []) in
    subst (λ n. last_of slot (chosen_known (slot == e.placed.slot)) (placed_in es) ≡ known_at (before ++ e ∷ es) (last_place slot n (chosen_place (slot == e.placed.slot)) es)) more
    (subst (λ all. last_of slot (chosen_known (slot == e.placed.slot)) (placed_in es) ≡ known_at all (last_place slot (length (before ++ e ∷ [])) (chosen_place (slot == e.placed.slot)) es)) (append_assoc before (e ∷ []) es)
    (known_from slot (before ++ e ∷ []) es (chosen_known (slot == e.placed.slot)) (chosen_place (slot == e.placed.slot))
    (subst (λ all. chosen_known (slot == e.placed.slot) ≡ known_at all (chosen_place (slot == e.placed.slot))) (sym (append_assoc before (e ∷ []) es)) (same (slot == e.placed.slot)))))
  where
    chosen_known : Bool → Option Known
    chosen_known b = if b then Some e.placed.known else k

    chosen_place : Bool → Option ℕ
    chosen_place b = if b then Some (length before) else found

    same : (b : Bool) → chosen_known b ≡ known_at (before ++ e ∷ es) (chosen_place b)
    same true = ap (option_map (λ (e : Entry). e.placed.known)) (sym (seam before es e))
    same false = h

known_placed : (slot : ℕ) (entries : List Entry) → last_of slot None (placed_in entries) ≡ known_at entries (place_of entries slot)
known_placed slot entries = known_from slot [] entries None None refl

-- an entry at the place of a slot
pub known_there : (slot at : ℕ) (entries : List Entry) (e : Entry) → place_of entries slot ≡ Some at → slice_get entries at ≡ Some e → last_of slot None (placed_in entries) ≡ Some e.placed.known
known_there slot at entries e h g = known_placed slot entries ∙ ap (known_at entries) h ∙ ap (option_map (λ (e : Entry). e.placed.known)) g

pub known_nowhere : (slot : ℕ) (entries : List Entry) → place_of entries slot ≡ None → last_of slot None (placed_in entries) ≡ None
known_nowhere slot entries h = known_placed slot entries ∙ ap (known_at entries) h

pub known_past : (slot at : ℕ) (entries : List Entry) → place_of entries slot ≡ Some at → slice_get entries at ≡ None → last_of slot None (placed_in entries) ≡ None
known_past slot at entries h g = known_placed slot entries ∙ ap (known_at entries) h ∙ ap (option_map (λ (e : Entry). e.placed.known)) g

-- one entry more at the end
last-more : (slot at : ℕ) (found : Option ℕ) (es : List Entry) (e : Entry)
    → last_place slot at found (es ++ e ∷ []) ≡ (if slot == e.placed.slot then Some (at + length es) else last_place slot at found es)
last-more slot at found [] e =
    let here : at ≡ at + 0 = omega arith in
    ap (λ n. if slot == e.placed.slot then Some n else found) here
last-more slot at found (x ∷ es) e =
    let further : at + 1 + length es ≡ at + length (x ∷ es) = omega arith in
    last-more slot (at + 1) (if slot == x.placed.slot then Some at else found) es e
    ∙ ap (λ n. if slot == e.placed.slot then Some n else last_place slot (at + 1) (if slot == x.placed.slot then Some at else found) es) further

place-more : (es : List Entry) (e : Entry) (slot : ℕ) → place_of (es ++ e ∷ []) slot ≡ (if slot == e.placed.slot then Some (length es) else place_of es slot)
place-more es e slot =
    let whole : 0 + length es ≡ length es = omega arith in
    last-more slot 0 None es e ∙ ap (λ n. if slot == e.placed.slot then Some n else place_of es slot) whole

say-more : (before es : List Entry) (e : Entry) → SayHidden before es → e.hidden ≡ place_of (before ++ es) e.placed.slot → SayHidden before (es ++ e ∷ [])
say-more before [] e s h = (subst (λ all. e.hidden ≡ place_of all e.placed.slot) (append-nil before) h, tt)
say-more before (x ∷ es) e s h = (s.0, say-more (before ++ x ∷ []) es e s.1 (subst (λ all. e.hidden ≡ place_of all e.placed.slot) (sym (append_assoc before (x ∷ []) es)) h))

say-less : (before es : List Entry) (e : Entry) → SayHidden before (es ++ e ∷ []) → SayHidden before es × (e.hidden ≡ place_of (before ++ es) e.placed.slot)
say-less before [] e s = (tt, subst (λ all. e.hidden ≡ place_of all e.placed.slot) (sym (append-nil before)) s.0)
say-less before (x ∷ es) e s =
    let rest = say-less (before ++ x ∷ []) es e s.1 in
    ((s.0, rest.0), subst (λ all. e.hidden ≡ place_of all e.placed.slot) (append_assoc before (x ∷ []) es) rest.1)

-- what the map says once a slot has another place
found-put : {S : Type 0} (old new : IndexMap ℕ (Option ℕ) S) (slot : ℕ) (place : Option ℕ)
    → ((q : ℕ) → get nat_eq new q ≡ cond (slot == q) (Some place) (get nat_eq old q)) → (q : ℕ) → found_place new q ≡ (if slot == q then place else found_place old q)
found-put old new slot place h q = ap option_flatten (h q) ∙ either (slot == q)
  where
    either : (b : Bool) → option_flatten (cond b (Some place) (get nat_eq old q)) ≡ (if b then place else option_flatten (get nat_eq old q))
    either true = refl
    either false = refl

-- an entry is put last, in a map that has got room
pub finds_put : {S : Type 0} (es all : List Entry) (e : Entry) (before old new : IndexMap ℕ (Option ℕ) S) (place : ℕ) → FindsPlaces es before → IsUnchanged before old → all ≡ es ++ e ∷ []
    → e.hidden ≡ found_place old e.placed.slot → place ≡ length es → Updates nat_eq old new e.placed.slot (Some (Some place)) → FindsPlaces all new
finds_put es all e before old new place f same is h at put = subst (λ es. FindsPlaces es new) (sym is) (record {
  places_found = λ q.
      found-put old new e.placed.slot (Some place) put.0 q
      ∙ ap (λ n. if e.placed.slot == q then Some n else found_place old q) at
      ∙ ap (λ o. if e.placed.slot == q then Some (length es) else o) (kept q)
      ∙ ap (λ b. if b then Some (length es) else place_of es q) (nat_eq_equiv.symm e.placed.slot q)
      ∙ sym (place-more es e q);
  hidden_said = say-more [] es e f.hidden_said (h ∙ kept e.placed.slot);
})
  where
    kept : (q : ℕ) → found_place old q ≡ place_of es q
    kept q = ap (λ entries. option_flatten (lookup (nat_eq q) entries)) same ∙ f.places_found q

-- the last entry is taken off, and what it hid is found again
finds-less : {S : Type 0} (es : List Entry) (e : Entry) (old new : IndexMap ℕ (Option ℕ) S) → FindsPlaces (es ++ e ∷ []) old
    → ((q : ℕ) → get nat_eq new q ≡ cond (e.placed.slot == q) (Some e.hidden) (get nat_eq old q)) → FindsPlaces es new
finds-less es e old new f put =
    let said = say-less [] es e f.hidden_said in
    record {
      places_found = λ q.
          found-put old new e.placed.slot e.hidden put q
          ∙ ap (λ o. if e.placed.slot == q then e.hidden else o) (f.places_found q ∙ place-more es e q)
          ∙ back q (e.placed.slot == q) refl said.1;
      hidden_said = said.0;
    }
  where
    back : (q : ℕ) (b : Bool) → (e.placed.slot == q) ≡ b → e.hidden ≡ place_of es e.placed.slot
        → (if b then e.hidden else (if q == e.placed.slot then Some (length es) else place_of es q)) ≡ place_of es q
    back q true h said = said ∙ ap (place_of es) (eqb-true e.placed.slot q h)
    back q false h said = ap (λ b. if b then Some (length es) else place_of es q) (nat_eq_equiv.symm q e.placed.slot ∙ h)

-- a slot that an entry has is there
surely-there : {S : Type 0} (es : List Entry) (e : Entry) (places : IndexMap ℕ (Option ℕ) S) → FindsPlaces (es ++ e ∷ []) places → get nat_eq places e.placed.slot ≡ None → ⊥
surely-there es e places f h = nothing (sym (ap option_flatten h) ∙ f.places_found e.placed.slot ∙ place-more es e e.placed.slot ∙ ap (λ b. if b then Some (length es) else place_of es e.placed.slot) (nat_eq_equiv.refl e.placed.slot))
  where
    nothing : None ≡ Some (length es) → ⊥
    nothing h = cc

-- so what is put in the map then is put without fail
pub finds_off : {S X E : Type 0} (es all : List Entry) (e : Entry) (old new : IndexMap ℕ (Option ℕ) S) (r : Result X E) → all ≡ es ++ e ∷ [] → FindsPlaces all old
    → OnOk r (Updates nat_eq old new e.placed.slot (Some e.hidden)) → OnErr r (get nat_eq old e.placed.slot ≡ None) → FindsPlaces es new
finds_off es all e old new (Ok x) is f put none = finds-less es e old new (subst (λ es. FindsPlaces es old) is f) put.0
finds_off es all e old new (Err x) is f put none = absurd (surely-there es e old (subst (λ es. FindsPlaces es old) is f) none)

-- what is in scope without the last entry
pub one-less : (es : List Entry) (e : Entry) → placed_in es ≡ take (length (placed_in (es ++ e ∷ [])) - 1) (placed_in (es ++ e ∷ []))
one-less es e =
    let split : placed_in (es ++ e ∷ []) ≡ placed_in es ++ e.placed ∷ [] = map-append (λ (e : Entry). e.placed) es (e ∷ []) in
    let short : length (placed_in es ++ e.placed ∷ []) - 1 ≡ length (placed_in es) = omega (arith, length-append (placed_in es) (e.placed ∷ [])) in
    subst (λ ps. placed_in es ≡ take (length ps - 1) ps) (sym split)
    (subst (λ n. placed_in es ≡ take n (placed_in es ++ e.placed ∷ [])) (sym short) (sym (take-append_seam (placed_in es) (e.placed ∷ []))))

pub ruleset finding = (known_there, known_nowhere, known_past)

pub ruleset leaving = (take-take, take_all)

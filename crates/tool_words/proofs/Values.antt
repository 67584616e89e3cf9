-- What a loop over words knows of the values that it has met.
use Rattle.std.proofs.Common.{◌≡◌, ℕ, ◌+◌, ◌<◌, ◌≤◌, List, [], ◌∷◌, ◌++◌, map, length, take, drop, get_or, true, false, Option, Some, None, is_some, Bor, String, Global, refl, sym, ap, ◌∙◌, arith, append-nil, length-append, take-append-drop}
use Rattle.std.specs.List.{filter_map, cons_option}
use Rattle.std.specs.Option.{option_map, option_to_list}
use Rattle.std.specs.String.{string_bytes}
use Rattle.std.proofs.lemmas.List.{map-append, take_more}
use Rattle.std.proofs.lemmas.List.Elements.{filter_map-append}
use Rattle.tool_words.specs.declared.key.Key.{Key}
use Rattle.tool_words.specs.Words.{value_for, values_for}

-- the text of a value that may be there, as a list
abbrev pub texts : Option (Bor (List ℕ)) → List (List ℕ)
texts value = option_to_list (option_map (λ (text : Bor (List ℕ)). text.now) value)

pub length-texts : (value : Option (Bor (List ℕ))) → is_some value ≡ true → length (texts value) ≡ 1
length-texts None e = cc
length-texts (Some x) e = refl

pub texts_none : (value : Option (Bor (List ℕ))) → is_some value ≡ false → texts value ≡ []
texts_none None e = refl
texts_none (Some x) e = cc

one_value : {X Y : Type 0} (h : X → Option Y) (x : X) → filter_map h (x ∷ []) ≡ option_to_list (h x)
one_value h x = elim (h x) as (λ o. cons_option o [] ≡ option_to_list o) [ None ↦ refl | Some y ↦ refl ]

-- the values of the front, and those of one more word
pub values_more : (key : Key) (words : List (String Global)) (i : ℕ) (word : String Global) (text : List ℕ) (before found : Option (Bor (List ℕ))) → i < length words → values_for key (map string_bytes (take i words)) ≡ texts before → word ≡ get_or words i word → text ≡ string_bytes word → option_map (λ (value : Bor (List ℕ)). value.now) found ≡ value_for key text → values_for key (map string_bytes (take (i + 1) words)) ≡ texts before ++ texts found
values_more key words i word text before found lt so_far here bytes answer =
    let at = get_or words i word in
    ap (λ l. values_for key (map string_bytes l)) (take_more words i word lt)
    ∙ ap (values_for key) (map-append string_bytes (take i words) (at ∷ []))
    ∙ filter_map-append (value_for key) (map string_bytes (take i words)) (string_bytes at ∷ [])
    ∙ ap (λ l. l ++ values_for key (string_bytes at ∷ [])) so_far
    ∙ ap (λ w. texts before ++ values_for key (string_bytes w ∷ [])) (sym here)
    ∙ ap (λ t. texts before ++ values_for key (t ∷ [])) (sym bytes)
    ∙ ap (λ l. texts before ++ l) (one_value (value_for key) text)
    ∙ ap (λ o. texts before ++ option_to_list o) (sym answer)

-- the whole has no fewer values than its front
pub length-values_front : (key : Key) (words : List (String Global)) (i : ℕ) → length (values_for key (map string_bytes (take i words))) ≤ length (values_for key (map string_bytes words))
length-values_front key words i =
    let front = map string_bytes (take i words) in
    let rest = map string_bytes (drop i words) in
    let whole : values_for key (map string_bytes words) ≡ values_for key front ++ values_for key rest
    = ap (λ l. values_for key (map string_bytes l)) (sym (take-append-drop i words))
    ∙ ap (values_for key) (map-append string_bytes (take i words) (drop i words))
    ∙ filter_map-append (value_for key) front rest in
    omega (arith, ap length whole, length-append (values_for key front) (values_for key rest))

-- a value after another: two at least
pub two_values : (values : List (List ℕ)) (before found : Option (Bor (List ℕ))) → values ≡ texts before ++ texts found → is_some before ≡ true → is_some found ≡ true → 2 ≤ length values
two_values values before found e b f = omega (arith, ap length e, length-append (texts before) (texts found), length-texts before b, length-texts found f)

-- the first value
pub first_value : (values : List (List ℕ)) (before found : Option (Bor (List ℕ))) → values ≡ texts before ++ texts found → is_some before ≡ false → values ≡ texts found
first_value values before found e b = e ∙ ap (λ l. l ++ texts found) (texts_none before b)

-- no further value
pub same_value : (values : List (List ℕ)) (before found : Option (Bor (List ℕ))) → values ≡ texts before ++ texts found → is_some found ≡ false → values ≡ texts before
same_value values before found e f = e ∙ ap (λ l. texts before ++ l) (texts_none found f) ∙ append-nil (texts before)

-- What `strip_prefix` says of a key's prefix.
use Rattle.std.proofs.Common.{◌≡◌, ℕ, List, length, drop, true, false, eqb, Option, Some, None, MatchOption, Bor, is_some, refl, sym, ap, ◌∙◌}
use Rattle.std.specs.List.{starts_with}
use Rattle.std.specs.Option.{option_map}
use Rattle.std.specs.Str.Pattern.{FindsTextPrefix, StripsPrefix}
use Rattle.std.proofs.lemmas.Str.Pattern.{starts_text}
use Rattle.tool_words.specs.Words.{following}

-- the call's clause gives what stands after the prefix
pub after_stripped : (p s : List ℕ) (r : Option (Bor (List ℕ))) → MatchOption r (FindsTextPrefix p s None) (λ x. StripsPrefix (FindsTextPrefix p) s x.now) → option_map (λ (x : Bor (List ℕ)). x.now) r ≡ following p s
after_stripped p s None h = let e : starts_with eqb s p ≡ false = sym (starts_text false p s h) in rw e refl
after_stripped p s (Some x) h =
    let e : starts_with eqb s p ≡ true = sym (starts_text true p s (h.0, h.1, rw h.1.0 h.1.2)) in
    let f : x.now ≡ drop (length p) s = h.2 ∙ ap (λ k. drop k s) h.1.0 in
    rw e (ap Some f)

-- a map leaves whether there is a value
pub is_some-option_map : {A B : Type 0} (f : A → B) (o : Option A) → is_some (option_map f o) ≡ is_some o
is_some-option_map f None = refl
is_some-option_map f (Some x) = refl

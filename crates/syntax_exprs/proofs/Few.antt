-- What is read within the limits joins no more than may be joined.
use Rattle.std.proofs.Common.{◌≡◌, ◌⊎◌, ◌≤◌, ℕ, zero, List, [], ◌∷◌, Bool, true, false, cond, ◌||◌, Option, Some, None, inl, inr, refl, subst, arith}
use Rattle.syntax_tokens.specs.declared.token.Symbol.{Symbol}
use Rattle.syntax_tokens.specs.declared.terminal.Placed.{Placed}
use Rattle.syntax_tokens.specs.declared.terminal.Terminal.{Terminal}
use Rattle.syntax_tokens.specs.declared.terminal.Terminal.TheVariants as terminal
use Rattle.syntax_tree.specs.declared.expr.InfixOp.{InfixOp}
use Rattle.syntax_grammar.specs.Words.{is_any, is_minus, is_not, is_dot, is_open_brace, is_open_bracket, is_star}
use Rattle.syntax_grammar.specs.Expecting.{Part, expr, Expected, one, part, choose, next_of, next_is, op_of, climb_parts, unary_parts, after_name_parts, selection_parts, ending_parts}
use Rattle.syntax_grammar.specs.Limits.{Counts, past, deeper, more_if, more_joined, inside, outside, Within, nothing, begins, passes}

pub past_joined : (t : Terminal) (c : Counts) → (past t c).joined ≡ c.joined
past_joined (terminal.Symbol Symbol.OpenParen) c = refl
past_joined (terminal.Symbol Symbol.OpenBracket) c = refl
past_joined (terminal.Symbol Symbol.OpenBrace) c = refl
past_joined (terminal.Symbol Symbol.CloseParen) c = refl
past_joined (terminal.Symbol Symbol.CloseBracket) c = refl
past_joined (terminal.Symbol Symbol.CloseBrace) c = refl
past_joined _ c = refl

-- what begins with a terminal
record First (xs : List Expected) : Type 0 where
  pub test : Terminal → Bool
  pub others : List Expected
  pub is : xs ≡ one test ∷ others

one_fits : {c d : Counts} {test : Terminal → Bool} {others : List Expected} {before after : List Placed} → Within c (one test ∷ others) before d after → c.joined ≤ 32
one_fits (passes test fits w) = fits.joined

first_fits : {c d : Counts} {xs : List Expected} {before after : List Placed} → First xs → Within c xs before d after → c.joined ≤ 32
first_fits {c} {d} {before = before} {after = after} f w = one_fits (subst (λ ys. Within c ys before d after) f.is w)

-- a part begins with a terminal, or it joins nothing at once
abbrev Begun : Counts → List Expected → Type 0
Begun d xs = (d.joined ≤ 32) ⊎ First xs

first_of_some : {test : Terminal → Bool} {others xs : List Expected} → Some (one test ∷ others) ≡ Some xs → First xs
first_of_some {test} {others} {xs} e = let same : xs ≡ one test ∷ others = cc in record { test = test; others = others; is = same }

begun_if : (b : Bool) (c : Counts) (test : Terminal → Bool) (this that : List Expected) {xs : List Expected} → c.joined ≤ 32 → Some (cond b (one test ∷ this) that) ≡ Some xs → Begun (more_if b c) xs
begun_if true c test this that h e = inr (first_of_some e)
begun_if false c test this that h e = inl h

climb_if : (b : Bool) (c : Counts) (ys : List Expected) {xs : List Expected} → c.joined ≤ 32 → Some (cond b (one is_any ∷ ys) []) ≡ Some xs → Begun (more_joined (cond b (one is_any ∷ ys) []) c) xs
climb_if true c ys h e = inr (first_of_some e)
climb_if false c ys h e = inl h

begun_climb : (level top : ℕ) (o : Option InfixOp) (c : Counts) {xs : List Expected} → c.joined ≤ 32 → Some (climb_parts level top o) ≡ Some xs → Begun (more_joined (climb_parts level top o) c) xs
begun_climb level top None c h e = inl h
begun_climb level top (Some op) c h e = climb_if _ c _ h e

begun_unary : (t : Terminal) (c : Counts) {xs : List Expected} → c.joined ≤ 32 → Some (unary_parts t) ≡ Some xs → Begun (more_if (is_minus t || is_not t) c) xs
begun_unary (terminal.Symbol Symbol.Minus) c h e = inr (first_of_some e)
begun_unary (terminal.Symbol Symbol.Not) c h e = inr (first_of_some e)
begun_unary _ c h e = inl h

begun_name : (t : Terminal) (c : Counts) {xs : List Expected} → c.joined ≤ 32 → after_name_parts t ≡ Some xs → Begun (more_if (is_dot t || is_open_bracket t) c) xs
begun_name (terminal.Symbol Symbol.Dot) c h e = inr (first_of_some e)
begun_name (terminal.Symbol Symbol.OpenBracket) c h e = inr (first_of_some e)
begun_name _ c h e = inl h

begun_selection : (others : Option (List Expected)) (t : Terminal) (c : Counts) {xs : List Expected} → c.joined ≤ 32 → selection_parts others t ≡ Some xs → Begun (more_if (is_dot t) c) xs
begun_selection others (terminal.Symbol Symbol.Dot) c h e = inr (first_of_some e)
begun_selection others _ c h e = inl h

body_few : (b : Bool) (c : Counts) → c.joined ≤ 32 → (cond b c (deeper c)).joined ≤ 32
body_few true c h = h
body_few false c h = h

begun_at : (n : Part) (next : Option Placed) (c : Counts) {xs : List Expected} → (n ≡ Part.elem → ⊥) → c.joined ≤ 32 → choose n next ≡ Some xs → Begun (inside n next c) xs
begun_at Part.elem next c other h e = absurd (other refl)
begun_at (expr zero) next c other h e = inl (omega arith)
begun_at Part.path next c other h e = inl (omega arith)
begun_at Part.type next c other h e = inl (omega arith)
begun_at Part.stmt next c other h e = inl (omega arith)
begun_at Part.member next c other h e = inl (omega arith)
begun_at Part.body next c other h e = inl (body_few (next_is is_open_brace next) c h)
begun_at (Part.climb level top) next c other h e = begun_climb level top (op_of next) c h e
begun_at Part.unary None c other h e = inl h
begun_at Part.unary (Some next) c other h e = begun_unary next.terminal c h e
begun_at Part.array next c other h e = inr (first_of_some e)
begun_at Part.element next c other h e = inr (first_of_some e)
begun_at Part.selection next c other h e = begun_if (next_is is_dot next) c _ _ _ h e
begun_at Part.suffixes next c other h e = begun_if (next_is is_open_bracket next) c _ _ _ h e
begun_at Part.after_name None c other h e = inl h
begun_at Part.after_name (Some next) c other h e = begun_name next.terminal c h e
begun_at (Part.selected_then ending) None c other h e = inl h
begun_at (Part.selected_then ending) (Some next) c other h e = begun_selection (ending_parts ending) next.terminal c h e
begun_at Part.selection_then None c other h e = inl h
begun_at Part.selection_then (Some next) c other h e = begun_selection None next.terminal c h e
begun_at _ next c other h e = inl h

begun_fits : {c d : Counts} {xs : List Expected} {before after : List Placed} → Begun c xs → Within c xs before d after → c.joined ≤ 32
begun_fits (inl h) w = h
begun_fits (inr f) w = first_fits f w

-- an element begins with a terminal, or a part of it does
elem_part : {c d : Counts} {n : Part} {test : Terminal → Bool} {others : List Expected} {before after : List Placed} →
    ((next : Option Placed) → choose n next ≡ Some (one test ∷ others)) → ((next : Option Placed) → inside n next c ≡ c) → Within c (part n ∷ []) before d after → c.joined ≤ 32
elem_part {c} {test = test} {others = others} first same (begins {xs = xs} {before = here} {between = between} {d = last} chosen w r) =
    let begun = first (next_of here) in
    let is : xs ≡ one test ∷ others = cc in
    let f : First xs = record { test = test; others = others; is = is } in
    first_fits f (subst (λ k. Within k xs here last between) (same (next_of here)) w)

elem_fits : (star bracket : Bool) {c d : Counts} {xs : List Expected} {before after : List Placed} →
    Some (cond star (one is_star ∷ []) (cond bracket (part Part.index ∷ []) (part Part.region_name ∷ []))) ≡ Some xs → Within c xs before d after → c.joined ≤ 32
elem_fits true bracket e w = first_fits (first_of_some e) w
elem_fits false true {c} {d} {xs} {before} {after} e w =
    let is : xs ≡ part Part.index ∷ [] = cc in
    elem_part {n = Part.index} (λ next. refl) (λ next. refl) (subst (λ ys. Within c ys before d after) is w)
elem_fits false false {c} {d} {xs} {before} {after} e w =
    let is : xs ≡ part Part.region_name ∷ [] = cc in
    elem_part {n = Part.region_name} (λ next. refl) (λ next. refl) (subst (λ ys. Within c ys before d after) is w)

is_elem : (n : Part) → (n ≡ Part.elem) ⊎ (n ≡ Part.elem → ⊥)
is_elem Part.elem = inl refl
is_elem _ = inr (λ e. cc)

inside_few : (n : Part) (c : Counts) {d : Counts} {xs : List Expected} {before after : List Placed} →
    c.joined ≤ 32 → choose n (next_of before) ≡ Some xs → Within (inside n (next_of before) c) xs before d after → (inside n (next_of before) c).joined ≤ 32
inside_few n c {d} {xs} {before} {after} h e w = elim (is_elem n) [
  | inl is ↦
      (let chosen : choose Part.elem (next_of before) ≡ Some xs = rw is at e in
      let v : Within (inside Part.elem (next_of before) c) xs before d after = rw is at w in
      rw is (elem_fits (next_is is_star (next_of before)) (next_is is_open_bracket (next_of before)) chosen v))
  | inr not ↦ begun_fits (begun_at n (next_of before) c not h e) w
]

outside_few : (n : Part) (c d : Counts) → c.joined ≤ 32 → d.joined ≤ 32 → (outside n c d).joined ≤ 32
outside_few (expr zero) c d h k = h
outside_few Part.path c d h k = h
outside_few Part.type c d h k = h
outside_few Part.stmt c d h k = h
outside_few Part.member c d h k = h
outside_few Part.body c d h k = h
outside_few _ c d h k = k

pub few : {c d : Counts} {xs : List Expected} {before after : List Placed} → Within c xs before d after → c.joined ≤ 32 → d.joined ≤ 32
few nothing h = h
few (passes {next = next} {c = c} test fits w) h = few w (rw (past_joined next.terminal c) fits.joined)
few (begins {n = n} {c = c} {d = d} chosen w r) h =
    few r (outside_few n c d h (few w (inside_few n c h chosen w)))

-- of counts in parts
pub still_few : {level joined last most : ℕ} {xs : List Expected} {before after : List Placed} →
    Within (record { level = level; joined = joined }) xs before (record { level = last; joined = most }) after → joined ≤ 32 → most ≤ 32
still_few w h = few w h

-- Fields, calls and elements after an expression.
use Rattle.std.proofs.Common.{◌≡◌, ◌↔◌, ◌∙◌, List, [], ◌∷◌, Bool, true, false, cond, ◌||◌, IsTrue, refl, sym, subst}
use Rattle.lang_base.specs.Refused.{IfRefused}
use Rattle.lang_base.specs.declared.place.Place.{Place}
use Rattle.lang_base.specs.declared.refusal.Kind.{Kind}
use Rattle.lang_base.specs.declared.refusal.Stop.{Stop}
use Rattle.syntax_tokens.specs.declared.token.Symbol.{Symbol}
use Rattle.syntax_tokens.specs.declared.terminal.Placed.{Placed}
use Rattle.syntax_tokens.specs.declared.terminal.Terminal.TheVariants as terminal
use Rattle.syntax_grammar.specs.Words.{is_dot, is_less, is_name, is_open_bracket}
use Rattle.syntax_grammar.specs.Taking.{Next, TakesNext}
use Rattle.syntax_grammar.specs.Expecting.{Part, Expected, one, part, next_is, next_of}
use Rattle.syntax_grammar.specs.Limits.{Counts, Fits, more, more_if, Within, Stops, in_part, Refuses}
use Rattle.syntax_exprs.specs.Counted.{Halts}
use Rattle.syntax_exprs.specs.Onward.{Onward}
use Rattle.syntax_exprs.proofs.Composed.{stops_first, on_refused}
use Rattle.syntax_exprs.proofs.Coming.{next_comes, symbol_comes_not, halted_symbol}
use Rattle.syntax_exprs.proofs.Onwards.{stay, over, step, enter, ends, refused_on, part_inside, part_stops, skip}
use Rattle.syntax_exprs.proofs.parts.OperatorParts.{joined_reads}

pub dot_selects : {here : List Placed} → Next (terminal.Symbol Symbol.Dot) here → true ≡ (next_is is_dot (next_of here) || next_is is_open_bracket (next_of here))
dot_selects {here} n = rw (next_comes Symbol.Dot here n) refl

reported : (b : Bool) {here : List Placed} → (IsTrue b ↔ Next (terminal.Symbol Symbol.OpenBracket) here) → b ≡ next_is is_open_bracket (next_of here)
reported true {here} tells = sym (next_comes Symbol.OpenBracket here (tells.0 refl))
reported false {here} tells = sym (symbol_comes_not Symbol.OpenBracket here (λ n. let t : false ≡ true = tells.1 n in cc))

pub bracket_selects : {here : List Placed} {b : Bool} → (Next (terminal.Symbol Symbol.Dot) here → ⊥) → (IsTrue b ↔ Next (terminal.Symbol Symbol.OpenBracket) here) →
    b ≡ (next_is is_dot (next_of here) || next_is is_open_bracket (next_of here))
bracket_selects {here} {b} away tells = rw (symbol_comes_not Symbol.Dot here away) (reported b tells)

-- any number of them
selected_enter : {c : Counts} {here : List Placed} → (next_is is_dot (next_of here) || next_is is_open_bracket (next_of here)) ≡ true →
    Onward c (part Part.selected ∷ []) here c (part Part.selection ∷ part Part.selected ∷ []) here
selected_enter e = enter Part.selected (rw e refl) (λ d. refl)

pub selected_on : {c d e : Counts} {before here after : List Placed} {b : Bool} → Onward c (part Part.selected ∷ []) before d (part Part.selected ∷ []) here →
    b ≡ (next_is is_dot (next_of here) || next_is is_open_bracket (next_of here)) → b ≡ true → Within d (part Part.selection ∷ []) here e after →
    Onward c (part Part.selected ∷ []) before e (part Part.selected ∷ []) after
selected_on o is selects w = over o (over (selected_enter (sym is ∙ selects)) (step _ w))

pub selected_refused : {c d : Counts} {before here : List Placed} {b : Bool} (end : Place) {last : Place} (stop : Stop) → Onward c (part Part.selected ∷ []) before d (part Part.selected ∷ []) here →
    b ≡ (next_is is_dot (next_of here) || next_is is_open_bracket (next_of here)) → b ≡ true → last ≡ end → IfRefused stop (Refuses d (part Part.selection ∷ []) here last) →
    IfRefused stop (Refuses c (part Part.selected ∷ []) before end)
selected_refused end stop o is selects same r = refused_on _ stop (over o (selected_enter (sym is ∙ selects))) same r

pub selected_ends : {c d : Counts} {before here : List Placed} {b : Bool} → Onward c (part Part.selected ∷ []) before d (part Part.selected ∷ []) here →
    b ≡ (next_is is_dot (next_of here) || next_is is_open_bracket (next_of here)) → b ≡ false → Within c (part Part.selected ∷ []) before d here
selected_ends {here = here} o is no_more =
    let off : (next_is is_dot (next_of here) || next_is is_open_bracket (next_of here)) ≡ false = sym is ∙ no_more in
    ends (over o (enter Part.selected (rw off refl) (λ d. refl)))

-- an element
element_enter : {c : Counts} {here : List Placed} → (Next (terminal.Symbol Symbol.Dot) here → ⊥) → Onward c (part Part.selection ∷ []) here c (part Part.element ∷ []) here
element_enter {c} {here} away =
    let off = symbol_comes_not Symbol.Dot here away in
    subst (λ b. Onward c (part Part.selection ∷ []) here (more_if b c) (part Part.element ∷ []) here) off (enter Part.selection (rw off refl) (λ d. refl))

pub element_selected : {c d : Counts} {before after : List Placed} → (Next (terminal.Symbol Symbol.Dot) before → ⊥) → Within c (part Part.element ∷ []) before d after → Within c (part Part.selection ∷ []) before d after
element_selected away w = (element_enter away).reads _ _ w

pub element_lost : (c : Counts) (before : List Placed) (end : Place) (stop : Stop) → (Next (terminal.Symbol Symbol.Dot) before → ⊥) → IfRefused stop (Refuses c (part Part.element ∷ []) before end) →
    IfRefused stop (Refuses c (part Part.selection ∷ []) before end)
element_lost c before end stop away r = refused_on _ stop (element_enter away) refl r

-- a field or a call
dot_enter : {c : Counts} {here : List Placed} → Next (terminal.Symbol Symbol.Dot) here → Onward c (part Part.selection ∷ []) here (more c) (one is_dot ∷ part Part.dotted_rest ∷ []) here
dot_enter {c} {here} n =
    let on = next_comes Symbol.Dot here n in
    subst (λ b. Onward c (part Part.selection ∷ []) here (more_if b c) (one is_dot ∷ part Part.dotted_rest ∷ []) here) on (enter Part.selection (rw on refl) (λ d. refl))

pub dot_halts : (c : Counts) (here : List Placed) (end : Place) (stop : Stop) → Next (terminal.Symbol Symbol.Dot) here → IfRefused stop (Halts (more c) here end) →
    IfRefused stop (Refuses c (part Part.selection ∷ []) here end)
dot_halts c here end stop n h = refused_on _ stop (dot_enter n) refl (halted_symbol Symbol.Dot here end (more c) stop n h)

pub dot_read : (c d : Counts) {before here : List Placed} {place : Place} → Next (terminal.Symbol Symbol.Dot) before → TakesNext before here place → Fits (more c) → d ≡ more c →
    Onward c (part Part.selection ∷ []) before d (part Part.dotted_rest ∷ []) here
dot_read c d n takes fits same = over (dot_enter n) (step _ (joined_reads is_dot Symbol.Dot c d n takes refl refl fits same))

-- arguments come where a `<` does
no_args_if : {d e : Counts} {ys : List Expected} {here after : List Placed} → next_is is_less (next_of here) ≡ false → Within d (part Part.args_if ∷ []) here e after → Onward d ys here e ys after
no_args_if off w = skip w (rw off refl) refl (λ f. refl)

args_if_args : {d e : Counts} {here after : List Placed} → next_is is_less (next_of here) ≡ true → Within d (part Part.args_if ∷ []) here e after → Within d (part Part.args ∷ []) here e after
args_if_args {d} {here = here} {after} on w =
    let i = part_inside {xs = part Part.args ∷ []} w (rw on refl) in
    subst (λ f. Within d (part Part.args ∷ []) here f after) i.is i.within

-- after the arguments
dotted_by : (b : Bool) {d e : Counts} {here after : List Placed} → next_is is_less (next_of here) ≡ b → Within d (part Part.args_if ∷ []) here e after →
    Onward d (part Part.dotted_rest ∷ []) here e (one is_name ∷ cond b (part Part.actuals) (part Part.actuals_if) ∷ []) after
dotted_by true on w = over (enter Part.dotted_rest (rw on refl) (λ f. refl)) (step _ (args_if_args on w))
dotted_by false off w = over (enter Part.dotted_rest (rw off refl) (λ f. refl)) (no_args_if off w)

args_stop : (b : Bool) {d : Counts} {before here : List Placed} {k : Kind} → next_is is_less (next_of before) ≡ b → Stops d (part Part.args_if ∷ []) before k here → Stops d (part Part.dotted_rest ∷ []) before k here
args_stop true on s = in_part {xs = part Part.args ∷ one is_name ∷ part Part.actuals ∷ []} (rw on refl) (stops_first _ (part_stops {xs = part Part.args ∷ []} s (rw on refl)))
args_stop false off s = elim (part_stops {xs = []} s (rw off refl)) [ ]

pub args_refused : {c d : Counts} {before here : List Placed} (end : Place) {last : Place} (stop : Stop) → Onward c (part Part.selection ∷ []) before d (part Part.dotted_rest ∷ []) here → last ≡ end →
    IfRefused stop (Refuses d (part Part.args_if ∷ []) here last) → IfRefused stop (Refuses c (part Part.selection ∷ []) before end)
args_refused {here = here} end {last} stop o same r = refused_on [] stop o same (on_refused last stop (λ k at s. args_stop (next_is is_less (next_of here)) refl s) r)

pub name_refused : {c d e : Counts} {before here after : List Placed} (end : Place) {last : Place} (stop : Stop) → Onward c (part Part.selection ∷ []) before d (part Part.dotted_rest ∷ []) here →
    Within d (part Part.args_if ∷ []) here e after → last ≡ end → IfRefused stop (Refuses e (one is_name ∷ []) after last) → IfRefused stop (Refuses c (part Part.selection ∷ []) before end)
name_refused {here = here} end stop o w same r = refused_on _ stop (over o (dotted_by (next_is is_less (next_of here)) refl w)) same r

pub field_read : {c d e f : Counts} {before here name_at after : List Placed} → Onward c (part Part.selection ∷ []) before d (part Part.dotted_rest ∷ []) here →
    Within d (part Part.args_if ∷ []) here e name_at → (Next (terminal.Symbol Symbol.Less) here → ⊥) → Within e (one is_name ∷ []) name_at f after →
    (Next (terminal.Symbol Symbol.OpenParen) after → ⊥) → Within c (part Part.selection ∷ []) before f after
field_read {here = here} {after = after} o w bare name away =
    ends (over o (over (dotted_by false (symbol_comes_not Symbol.Less here bare) w) (over (step _ name)
    (enter Part.actuals_if (rw (symbol_comes_not Symbol.OpenParen after away) refl) (λ g. refl)))))

-- actuals come after arguments, or where a `(` does
call_enter : (b : Bool) {f : Counts} {after : List Placed} → (b ≡ false → Next (terminal.Symbol Symbol.OpenParen) after) →
    Onward f (cond b (part Part.actuals) (part Part.actuals_if) ∷ []) after f (part Part.actuals ∷ []) after
call_enter true n = stay
call_enter false {after = after} n = enter Part.actuals_if (rw (next_comes Symbol.OpenParen after (n refl)) refl) (λ g. refl)

less_or : {here after : List Placed} → ((Next (terminal.Symbol Symbol.Less) here → ⊥) → Next (terminal.Symbol Symbol.OpenParen) after) →
    next_is is_less (next_of here) ≡ false → Next (terminal.Symbol Symbol.OpenParen) after
less_or {here} calls off = calls (λ n. let on = next_comes Symbol.Less here n in cc)

pub call_goes : {c d e f : Counts} {before here name_at after : List Placed} → Onward c (part Part.selection ∷ []) before d (part Part.dotted_rest ∷ []) here →
    Within d (part Part.args_if ∷ []) here e name_at → Within e (one is_name ∷ []) name_at f after →
    ((Next (terminal.Symbol Symbol.Less) here → ⊥) → Next (terminal.Symbol Symbol.OpenParen) after) → Onward c (part Part.selection ∷ []) before f (part Part.actuals ∷ []) after
call_goes {here = here} o w name calls =
    over o (over (dotted_by (next_is is_less (next_of here)) refl w) (over (step _ name) (call_enter (next_is is_less (next_of here)) (less_or calls))))

pub call_read : {c d e f g : Counts} {before here name_at at after : List Placed} → Onward c (part Part.selection ∷ []) before d (part Part.dotted_rest ∷ []) here →
    Within d (part Part.args_if ∷ []) here e name_at → Within e (one is_name ∷ []) name_at f at →
    ((Next (terminal.Symbol Symbol.Less) here → ⊥) → Next (terminal.Symbol Symbol.OpenParen) at) → Within f (part Part.actuals ∷ []) at g after →
    Within c (part Part.selection ∷ []) before g after
call_read o w name calls all = (call_goes o w name calls).reads _ _ all

pub call_refused : {c d e f : Counts} {before here name_at at : List Placed} (end : Place) {last : Place} (stop : Stop) → Onward c (part Part.selection ∷ []) before d (part Part.dotted_rest ∷ []) here →
    Within d (part Part.args_if ∷ []) here e name_at → Within e (one is_name ∷ []) name_at f at →
    ((Next (terminal.Symbol Symbol.Less) here → ⊥) → Next (terminal.Symbol Symbol.OpenParen) at) → last ≡ end → IfRefused stop (Refuses f (part Part.actuals ∷ []) at last) →
    IfRefused stop (Refuses c (part Part.selection ∷ []) before end)
call_refused end stop o w name calls same r = refused_on _ stop (call_goes o w name calls) same r

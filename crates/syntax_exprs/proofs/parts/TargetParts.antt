-- Selections after which a statement ends.
use Rattle.std.proofs.Common.{◌≡◌, ◌<◌, ◌∙◌, arith, length, List, [], ◌∷◌, ◌++◌, ℕ, Bool, true, false, ◌||◌, Option, Some, None, inl, inr, refl, sym, ap, subst}
use Rattle.lang_base.specs.Refused.{IfRefused}
use Rattle.lang_base.specs.declared.place.Place.{Place}
use Rattle.lang_base.specs.declared.refusal.Kind.{Kind}
use Rattle.lang_base.specs.declared.refusal.Stop.{Stop}
use Rattle.syntax_tokens.specs.declared.token.Symbol.{Symbol}
use Rattle.syntax_tokens.specs.declared.token.Keyword.{Keyword}
use Rattle.syntax_tokens.specs.declared.terminal.Placed.{Placed}
use Rattle.syntax_tokens.specs.declared.terminal.Terminal.{Terminal}
use Rattle.syntax_tokens.specs.declared.terminal.Terminal.TheVariants as terminal
use Rattle.syntax_tree.specs.declared.region.Named.{Named}
use Rattle.syntax_tree.specs.declared.region.RplTree.{RplTree}
use Rattle.syntax_tree.specs.Plain.{PlainExpr, PlainExprs, expression, create}
use Rattle.syntax_grammar.specs.Paths.{DerivesArgs, no_args, args}
use Rattle.syntax_grammar.specs.Reading.{DerivesSelection, after_dot, called, indexed, ending_of}
use Rattle.syntax_grammar.specs.Words.{is_any, is_assign, is_close_bracket, is_dot, is_less, is_name, is_new, is_open_bracket, is_open_paren}
use Rattle.syntax_grammar.specs.Taking.{Takes, Next}
use Rattle.syntax_grammar.specs.Expressions.{DerivesActuals, DerivesPrimary, Ending, as_value, as_name, as_field, as_element, as_call, as_creation}
use Rattle.syntax_grammar.specs.Expecting.{Part, Expected, one, part, choose, next_is, next_of, selection_parts, ending_parts, performed_parts}
use Rattle.syntax_grammar.specs.Limits.{Counts, inside, outside, past, more, more_if, Within, begins, passes, nothing, Stops, no_part, no_terminal, too_many, in_part, after_part, after_terminal, Refuses}
use Rattle.syntax_exprs.specs.Onward.{Onward}
use Rattle.syntax_exprs.specs.Targets.{IsTarget, Leads, begins_declaration, follows_a_type, stmt_begins}
use Rattle.syntax_exprs.proofs.Composed.{stops_first, on_refused}
use Rattle.syntax_grammar.proofs.Readings.{no_longer}
use Rattle.syntax_exprs.proofs.Coming.{symbol_comes_not, keyword_comes_not}
use Rattle.syntax_exprs.proofs.Onwards.{over, step, steps, enter, refused_on, extend_stops, part_inside, part_stops, skip}

same_selection : (others : Option (List Expected)) (t : Terminal) → (is_dot t || is_open_bracket t) ≡ true → selection_parts others t ≡ selection_parts None t
same_selection others (terminal.Symbol Symbol.Dot) on = refl
same_selection others (terminal.Symbol Symbol.OpenBracket) on = refl
same_selection others _ on = cc

same_choice : (ending : Ending) (here : List Placed) → (next_is is_dot (next_of here) || next_is is_open_bracket (next_of here)) ≡ true →
    choose (Part.selected_then ending) (next_of here) ≡ choose Part.selection_then (next_of here)
same_choice ending [] on = cc
same_choice ending (next ∷ after) on = same_selection (ending_parts ending) next.terminal on

-- where a selection comes, it comes whatever stands before
then_reads : (ending : Ending) {c d : Counts} {here after : List Placed} → choose (Part.selected_then ending) (next_of here) ≡ choose Part.selection_then (next_of here) →
    Within c (part Part.selection_then ∷ []) here d after → Within c (part (Part.selected_then ending) ∷ []) here d after
then_reads ending same (begins chosen w nothing) = begins (same ∙ chosen) w nothing

then_stops : (ending : Ending) {c : Counts} {before here : List Placed} {k : Kind} → choose (Part.selected_then ending) (next_of before) ≡ choose Part.selection_then (next_of before) →
    Stops c (part Part.selection_then ∷ []) before k here → Stops c (part (Part.selected_then ending) ∷ []) before k here
then_stops ending same (no_part none) = no_part (same ∙ none)
then_stops ending same (in_part chosen s) = in_part (same ∙ chosen) s
then_stops ending same (after_part chosen w s) = elim s [ ]

pub then_enter : (ending : Ending) {c : Counts} {here : List Placed} → (next_is is_dot (next_of here) || next_is is_open_bracket (next_of here)) ≡ true →
    Onward c (part (Part.selected_then ending) ∷ []) here c (part Part.selection_then ∷ []) here
then_enter ending {here = here} on = record {
  reads = λ e after w. then_reads ending (same_choice ending here on) w;
  stops = λ k at s. then_stops ending (same_choice ending here on) s;
}

-- a selection stops alike, whether more stands after it or a statement ends there
if_after : {c : Counts} {test : Terminal → Bool} {xs ys : List Expected} {before here : List Placed} {k : Kind} →
    ((d : Counts) (at : List Placed) → Stops d xs at k here → Stops d ys at k here) → Stops c (one test ∷ xs) before k here → Stops c (one test ∷ ys) before k here
if_after same (no_terminal none) = no_terminal none
if_after same (too_many test over_most) = too_many test over_most
if_after same (after_terminal test fits s) = after_terminal test fits (same _ _ s)

actuals_stop : (b : Bool) {c : Counts} {before here : List Placed} {k : Kind} → next_is is_open_paren (next_of before) ≡ b →
    Stops c (part Part.actuals_if ∷ []) before k here → Stops c (part Part.dotted_rest_then ∷ []) before k here
actuals_stop true on s = in_part {xs = part Part.actuals ∷ part (Part.selected_then as_call) ∷ []} (rw on refl)
    (stops_first (part (Part.selected_then as_call) ∷ []) (part_stops {xs = part Part.actuals ∷ []} s (rw on refl)))
actuals_stop false off s = elim (part_stops {xs = []} s (rw off refl)) [ ]

dotted_stop : (b : Bool) {c : Counts} {before here : List Placed} {k : Kind} → next_is is_less (next_of before) ≡ b →
    Stops c (part Part.dotted_rest ∷ []) before k here → Stops c (part Part.dotted_then ∷ []) before k here
dotted_stop true on s = in_part {xs = part Part.args ∷ one is_name ∷ part Part.actuals ∷ part (Part.selected_then as_call) ∷ []} (rw on refl)
    (extend_stops (part (Part.selected_then as_call) ∷ []) (part_stops {xs = part Part.args ∷ one is_name ∷ part Part.actuals ∷ []} s (rw on refl)))
dotted_stop false off s = in_part {xs = one is_name ∷ part Part.dotted_rest_then ∷ []} (rw off refl)
    (if_after (λ d at v. actuals_stop (next_is is_open_paren (next_of at)) refl v) (part_stops {xs = one is_name ∷ part Part.actuals_if ∷ []} s (rw off refl)))

dot_stop : {c : Counts} {after here : List Placed} {place : Place} {k : Kind} → Stops c (part Part.selection ∷ []) (record { terminal = terminal.Symbol Symbol.Dot; place = place } ∷ after) k here →
    Stops c (part Part.selection_then ∷ []) (record { terminal = terminal.Symbol Symbol.Dot; place = place } ∷ after) k here
dot_stop s = in_part {xs = one is_dot ∷ part Part.dotted_then ∷ []} refl
    (if_after (λ d at v. dotted_stop (next_is is_less (next_of at)) refl v) (part_stops {xs = one is_dot ∷ part Part.dotted_rest ∷ []} s refl))

bracket_stop : {c : Counts} {after here : List Placed} {place : Place} {k : Kind} → Stops c (part Part.selection ∷ []) (record { terminal = terminal.Symbol Symbol.OpenBracket; place = place } ∷ after) k here →
    Stops c (part Part.selection_then ∷ []) (record { terminal = terminal.Symbol Symbol.OpenBracket; place = place } ∷ after) k here
bracket_stop s = in_part {xs = part Part.element ∷ part (Part.selected_then as_element) ∷ []} refl
    (stops_first (part (Part.selected_then as_element) ∷ []) (part_stops {xs = part Part.element ∷ []} s refl))

-- where no selection comes, what ends the statement does
other_parts : (others : Option (List Expected)) (t : Terminal) → (is_dot t || is_open_bracket t) ≡ false → (selection_parts others t ≡ others) × (is_dot t ≡ false)
other_parts others (terminal.Symbol Symbol.Dot) off = cc
other_parts others (terminal.Symbol Symbol.OpenBracket) off = cc
other_parts others _ off = (refl, refl)

end_choice : (ending : Ending) (here : List Placed) → (next_is is_dot (next_of here) || next_is is_open_bracket (next_of here)) ≡ false →
    (choose (Part.selected_then ending) (next_of here) ≡ ending_parts ending) × (next_is is_dot (next_of here) ≡ false)
end_choice ending [] off = (refl, refl)
end_choice ending (next ∷ after) off = other_parts (ending_parts ending) next.terminal off

end_enter : (ending : Ending) {c : Counts} {xs : List Expected} {here : List Placed} → (next_is is_dot (next_of here) || next_is is_open_bracket (next_of here)) ≡ false → ending_parts ending ≡ Some xs →
    Onward c (part (Part.selected_then ending) ∷ []) here c xs here
end_enter ending {c} {xs} {here} off is =
    let chosen = end_choice ending here off in
    subst (λ b. Onward c (part (Part.selected_then ending) ∷ []) here (more_if b c) xs here) chosen.1 (enter (Part.selected_then ending) (chosen.0 ∙ is) (λ d. refl))

pub target_leads : (ending : Ending) {c d : Counts} {before here : List Placed} → Onward c (stmt_begins before) before d (part (Part.selected_then ending) ∷ []) here →
    (next_is is_dot (next_of here) || next_is is_open_bracket (next_of here)) ≡ false → Leads c before ending d here
target_leads ending {here = here} o off = record {
  reads = λ xs e after is w. o.reads e after ((end_enter ending off is).reads e after w);
  stops = λ xs k at is s. o.stops k at ((end_enter ending off is).stops k at s);
  lost = λ none. (let chosen = end_choice ending here off in o.stops _ _ (no_part (chosen.0 ∙ none)));
}

-- what begins as a creation
new_enter : {c : Counts} {before : List Placed} → Next (terminal.Keyword Keyword.New) before →
    Onward c (stmt_begins before) before c (one is_new ∷ one is_name ∷ part Part.args_if ∷ part Part.actuals ∷ part (Part.selected_then as_creation) ∷ []) before
new_enter n = rw (n.takes.takes.first) (enter Part.performed refl (λ d. refl))

pub new_goes : {ending : Ending} {c d : Counts} {before after : List Placed} → Next (terminal.Keyword Keyword.New) before →
    Within c (one is_new ∷ one is_name ∷ part Part.args_if ∷ part Part.actuals ∷ []) before d after → ending ≡ as_creation →
    Onward c (stmt_begins before) before d (part (Part.selected_then ending) ∷ []) after
new_goes n w is = rw is (over (new_enter n) (steps (part (Part.selected_then as_creation) ∷ []) w))

pub new_ending : {name : Named} {regions : List RplTree} {all : PlainExprs} {e : PlainExpr} {place : Place} → e ≡ expression place (create name regions all) → ending_of e ≡ as_creation
new_ending is = rw is refl

pub new_target_refused : (c : Counts) (before : List Placed) (end : Place) (stop : Stop) → Next (terminal.Keyword Keyword.New) before →
    IfRefused stop (Refuses c (one is_new ∷ one is_name ∷ part Part.args_if ∷ part Part.actuals ∷ []) before end) → IfRefused stop (Refuses c (stmt_begins before) before end)
new_target_refused c before end stop n r =
    on_refused end stop (λ k here s. (new_enter n).stops k here (extend_stops (part (Part.selected_then as_creation) ∷ []) s)) r

-- or in parentheses
inner_enter : {c : Counts} {before : List Placed} → Next (terminal.Symbol Symbol.OpenParen) before →
    Onward c (stmt_begins before) before c (part Part.inner ∷ part Part.selection_then ∷ []) before
inner_enter n = rw (n.takes.takes.first) (enter Part.performed refl (λ d. refl))

pub inner_target_refused : (c : Counts) (before : List Placed) (end : Place) (stop : Stop) → Next (terminal.Symbol Symbol.OpenParen) before →
    IfRefused stop (Refuses c (part Part.inner ∷ []) before end) → IfRefused stop (Refuses c (stmt_begins before) before end)
inner_target_refused c before end stop n r = refused_on _ stop (inner_enter n) refl r

-- what a part begins with, and whatever is expected after the part
leave_reads : {n : Part} {c e : Counts} {xs ys : List Expected} {before after : List Placed} → Within c (part n ∷ ys) before e after → choose n (next_of before) ≡ Some xs →
    ((d : Counts) → outside n c d ≡ d) → Within (inside n (next_of before) c) (xs ++ ys) before e after
leave_reads {n} {c} {e} {xs} {ys} {before} {after} (begins {xs = zs} {between = between} {d = last} chosen w r) is same =
    let equal : zs ≡ xs = cc in
    let v : Within (inside n (next_of before) c) xs before last between = subst (λ us. Within (inside n (next_of before) c) us before last between) equal w in
    (steps ys v).reads e after (subst (λ f. Within f ys between e after) (same last) r)

leave_stops : {n : Part} {c : Counts} {xs ys : List Expected} {before here : List Placed} {k : Kind} → Stops c (part n ∷ ys) before k here → choose n (next_of before) ≡ Some xs →
    ((d : Counts) → outside n c d ≡ d) → Stops (inside n (next_of before) c) (xs ++ ys) before k here
leave_stops (no_part none) is same = cc
leave_stops {n} {c} {xs} {ys} {before} {here} {k} (in_part {xs = zs} chosen s) is same =
    let equal : zs ≡ xs = cc in
    extend_stops ys (subst (λ us. Stops (inside n (next_of before) c) us before k here) equal s)
leave_stops {n} {c} {xs} {ys} {before} {here} {k} (after_part {xs = zs} {between = between} {d = last} chosen w s) is same =
    let equal : zs ≡ xs = cc in
    let v : Within (inside n (next_of before) c) xs before last between = subst (λ us. Within (inside n (next_of before) c) us before last between) equal w in
    (steps ys v).stops k here (subst (λ f. Stops f ys between k here) (same last) s)

leave : (n : Part) {c : Counts} {xs : List Expected} (ys : List Expected) {here : List Placed} → choose n (next_of here) ≡ Some xs → ((d : Counts) → outside n c d ≡ d) →
    Onward (inside n (next_of here) c) (xs ++ ys) here c (part n ∷ ys) here
leave n ys chosen same = record { reads = λ e after w. leave_reads w chosen same; stops = λ k at s. leave_stops s chosen same }

-- after the same terminal
under_reads : {test : Terminal → Bool} {c e : Counts} {xs ys : List Expected} {next : Placed} {here after : List Placed} → ((d : Counts) → Onward d xs here d ys here) →
    Within c (one test ∷ ys) (next ∷ here) e after → Within c (one test ∷ xs) (next ∷ here) e after
under_reads o (passes test fits w) = passes test fits ((o _).reads _ _ w)

under_stops : {test : Terminal → Bool} {c : Counts} {xs ys : List Expected} {next : Placed} {here at : List Placed} {k : Kind} → ((d : Counts) → Onward d xs here d ys here) →
    Stops c (one test ∷ ys) (next ∷ here) k at → Stops c (one test ∷ xs) (next ∷ here) k at
under_stops o (no_terminal none) = no_terminal none
under_stops o (too_many test over_most) = too_many test over_most
under_stops o (after_terminal test fits s) = after_terminal test fits ((o _).stops _ _ s)

under : {test : Terminal → Bool} {c : Counts} {xs ys : List Expected} {next : Placed} {here : List Placed} → ((d : Counts) → Onward d xs here d ys here) →
    Onward c (one test ∷ xs) (next ∷ here) c (one test ∷ ys) (next ∷ here)
under o = record { reads = λ e after w. under_reads o w; stops = λ k at s. under_stops o s }

-- a name after which no declaration goes on
name_by : (t : Terminal) {c : Counts} {place : Place} {after : List Placed} → follows_a_type (record { terminal = t; place = place } ∷ after) ≡ false →
    Onward c (part Part.after_name ∷ []) (record { terminal = t; place = place } ∷ after) c (part (Part.selected_then as_name) ∷ []) (record { terminal = t; place = place } ∷ after)
name_by (terminal.Name n) off = cc
name_by (terminal.Symbol Symbol.Less) off = cc
name_by (terminal.Symbol Symbol.Dot) off =
    over (enter Part.after_name {xs = one is_dot ∷ part Part.dotted_then ∷ []} refl (λ d. refl)) (leave (Part.selected_then as_name) {xs = one is_dot ∷ part Part.dotted_then ∷ []} [] refl (λ d. refl))
name_by (terminal.Symbol Symbol.OpenBracket) {after = after} off =
    let no_close : next_is is_close_bracket (next_of after) ≡ false = off in
    over (enter Part.after_name {xs = one is_open_bracket ∷ part Part.after_bracket ∷ []} refl (λ d. refl))
    (over (under (λ f. enter Part.after_bracket {xs = part (Part.expr 0) ∷ one is_close_bracket ∷ part (Part.selected_then as_element) ∷ []} (rw no_close refl) (λ d. refl)))
    (over (leave Part.element {xs = one is_open_bracket ∷ part (Part.expr 0) ∷ one is_close_bracket ∷ []} (part (Part.selected_then as_element) ∷ []) refl (λ d. refl))
    (leave (Part.selected_then as_name) {xs = part Part.element ∷ part (Part.selected_then as_element) ∷ []} [] refl (λ d. refl))))
name_by _ off =
    over (enter Part.after_name {xs = one is_assign ∷ part Part.value ∷ []} refl (λ d. refl)) (leave (Part.selected_then as_name) {xs = one is_assign ∷ part Part.value ∷ []} [] refl (λ d. refl))

name_goes : (here : List Placed) {c : Counts} → follows_a_type here ≡ false → Onward c (part Part.after_name ∷ []) here c (part (Part.selected_then as_name) ∷ []) here
name_goes [] off =
    over (enter Part.after_name {xs = one is_assign ∷ part Part.value ∷ []} refl (λ d. refl)) (leave (Part.selected_then as_name) {xs = one is_assign ∷ part Part.value ∷ []} [] refl (λ d. refl))
name_goes (next ∷ after) off = name_by next.terminal off

-- a part that was read, at what it begins with
inside_of : {n : Part} {c d : Counts} {xs : List Expected} {before after : List Placed} → Within c (part n ∷ []) before d after → choose n (next_of before) ≡ Some xs →
    ((e : Counts) → outside n c e ≡ e) → Within (inside n (next_of before) c) xs before d after
inside_of {n} {c} {xs = xs} {before} {after} w chosen same =
    let i = part_inside w chosen in
    subst (λ f. Within (inside n (next_of before) c) xs before f after) (sym (same i.last) ∙ i.is) i.within

after_first : {test : Terminal → Bool} {c d : Counts} {xs : List Expected} {next : Placed} {between after : List Placed} → Within c (one test ∷ xs) (next ∷ between) d after →
    Within (past next.terminal c) xs between d after
after_first (passes test fits w) = w

pass_on : {test : Terminal → Bool} {c d : Counts} {xs : List Expected} (ys : List Expected) {next : Placed} {between after : List Placed} → Within c (one test ∷ xs) (next ∷ between) d after →
    Onward c (one test ∷ ys) (next ∷ between) (past next.terminal c) ys between
pass_on ys (passes test fits w) = step ys (passes test fits nothing)

shorter : {test : Terminal → Bool} {c d : Counts} {xs : List Expected} {before after : List Placed} → Within c (one test ∷ xs) before d after → length after < length before
shorter (passes test fits w) = let h = no_longer w in omega (arith, h)

-- a field, a call or an element that was read, and how a statement goes on after it
dot_goes : {c d : Counts} {place : Place} {between after : List Placed} {ys : List Expected} →
    ((e : Counts) → Within e (part Part.dotted_rest ∷ []) between d after → Onward e (part Part.dotted_then ∷ []) between d ys after) →
    Within c (part Part.selection ∷ []) (record { terminal = terminal.Symbol Symbol.Dot; place = place } ∷ between) d after →
    Onward c (part Part.selection_then ∷ []) (record { terminal = terminal.Symbol Symbol.Dot; place = place } ∷ between) d ys after
dot_goes {c} goes w =
    let v = inside_of {xs = one is_dot ∷ part Part.dotted_rest ∷ []} w refl (λ e. refl) in
    over (enter Part.selection_then {xs = one is_dot ∷ part Part.dotted_then ∷ []} refl (λ e. refl)) (over (pass_on (part Part.dotted_then ∷ []) v) (goes (more c) (after_first v)))

field_end : (b : Bool) {c d : Counts} {here : List Placed} → next_is is_open_paren (next_of here) ≡ b → Within c (part Part.actuals_if ∷ []) here d here →
    Onward c (part Part.dotted_rest_then ∷ []) here d (part (Part.selected_then as_field) ∷ []) here
field_end true on w =
    let v = inside_of {xs = part Part.actuals ∷ []} w (rw on refl) (λ e. refl) in
    let u = inside_of {xs = one is_open_paren ∷ part Part.actuals_rest ∷ []} v refl (λ e. refl) in
    let h = shorter u in absurd (omega (arith, h))
field_end false off w =
    over (enter Part.dotted_rest_then {xs = part (Part.selected_then as_field) ∷ []} (rw off refl) (λ e. refl)) (skip w (rw off refl) refl (λ e. refl))

field_goes : {c d : Counts} {n : ℕ} {place : Place} {after : List Placed} → Within c (part Part.dotted_rest ∷ []) (record { terminal = terminal.Name n; place = place } ∷ after) d after →
    Onward c (part Part.dotted_then ∷ []) (record { terminal = terminal.Name n; place = place } ∷ after) d (part (Part.selected_then as_field) ∷ []) after
field_goes {after = after} w =
    let v = inside_of {xs = one is_name ∷ part Part.actuals_if ∷ []} w refl (λ e. refl) in
    over (enter Part.dotted_then {xs = one is_name ∷ part Part.dotted_rest_then ∷ []} refl (λ e. refl))
    (over (pass_on (part Part.dotted_rest_then ∷ []) v) (field_end (next_is is_open_paren (next_of after)) refl (after_first v)))

call_goes : {c d : Counts} {n : ℕ} {place : Place} {here after : List Placed} → next_is is_open_paren (next_of here) ≡ true →
    Within c (part Part.dotted_rest ∷ []) (record { terminal = terminal.Name n; place = place } ∷ here) d after →
    Onward c (part Part.dotted_then ∷ []) (record { terminal = terminal.Name n; place = place } ∷ here) d (part (Part.selected_then as_call) ∷ []) after
call_goes on w =
    let v = inside_of {xs = one is_name ∷ part Part.actuals_if ∷ []} w refl (λ e. refl) in
    over (enter Part.dotted_then {xs = one is_name ∷ part Part.dotted_rest_then ∷ []} refl (λ e. refl))
    (over (pass_on (part Part.dotted_rest_then ∷ []) v)
    (over (enter Part.dotted_rest_then {xs = part Part.actuals ∷ part (Part.selected_then as_call) ∷ []} (rw on refl) (λ e. refl))
    (step (part (Part.selected_then as_call) ∷ []) (inside_of {xs = part Part.actuals ∷ []} (after_first v) (rw on refl) (λ e. refl)))))

args_call_goes : {c d : Counts} {here after : List Placed} → next_is is_less (next_of here) ≡ true → Within c (part Part.dotted_rest ∷ []) here d after →
    Onward c (part Part.dotted_then ∷ []) here d (part (Part.selected_then as_call) ∷ []) after
args_call_goes on w =
    let v = inside_of {xs = part Part.args ∷ one is_name ∷ part Part.actuals ∷ []} w (rw on refl) (λ e. refl) in
    over (enter Part.dotted_then {xs = part Part.args ∷ one is_name ∷ part Part.actuals ∷ part (Part.selected_then as_call) ∷ []} (rw on refl) (λ e. refl)) (steps (part (Part.selected_then as_call) ∷ []) v)

element_goes : {c d : Counts} {place : Place} {between after : List Placed} → Within c (part Part.selection ∷ []) (record { terminal = terminal.Symbol Symbol.OpenBracket; place = place } ∷ between) d after →
    Onward c (part Part.selection_then ∷ []) (record { terminal = terminal.Symbol Symbol.OpenBracket; place = place } ∷ between) d (part (Part.selected_then as_element) ∷ []) after
element_goes w =
    let v = inside_of {xs = part Part.element ∷ []} w refl (λ e. refl) in
    over (enter Part.selection_then {xs = part Part.element ∷ part (Part.selected_then as_element) ∷ []} refl (λ e. refl)) (step (part (Part.selected_then as_element) ∷ []) v)

actuals_open : {here after : List Placed} {all : PlainExprs} → DerivesActuals here after all → next_is is_open_paren (next_of here) ≡ true
actuals_open (DerivesActuals.no_actuals start close) = rw (start.first) refl
actuals_open (DerivesActuals.actuals start first others close) = rw (start.first) refl

name_call_goes : {c d : Counts} {named : Named} {regions : List RplTree} {all : PlainExprs} {one_after two_after here after : List Placed} →
    DerivesArgs one_after two_after regions → Takes (terminal.Name named.name) two_after here named.place → DerivesActuals here after all → Within c (part Part.dotted_rest ∷ []) one_after d after →
    Onward c (part Part.dotted_then ∷ []) one_after d (part (Part.selected_then as_call) ∷ []) after
name_call_goes {c} {d} {after = after} no_args name all w =
    rw (name.first) (call_goes (actuals_open all) (subst (λ b. Within c (part Part.dotted_rest ∷ []) b d after) name.first w))
name_call_goes (args start paths close) name all w = args_call_goes (rw (start.first) refl) w

pub selection_goes : {of found : PlainExpr} {c d : Counts} {before after : List Placed} → DerivesSelection of before after found → Within c (part Part.selection ∷ []) before d after →
    Onward c (part Part.selection_then ∷ []) before d (part (Part.selected_then (ending_of found)) ∷ []) after
selection_goes {c = c} {d} {after = after} (after_dot dot name) w =
    rw (dot.first) (dot_goes (λ e v. rw (name.first) (field_goes (subst (λ b. Within e (part Part.dotted_rest ∷ []) b d after) name.first v)))
    (subst (λ b. Within c (part Part.selection ∷ []) b d after) dot.first w))
selection_goes {c = c} {d} {after = after} (called dot paths name all) w =
    rw (dot.first) (dot_goes (λ e v. name_call_goes paths name all v) (subst (λ b. Within c (part Part.selection ∷ []) b d after) dot.first w))
selection_goes {c = c} {d} {after = after} (indexed start at close) w =
    rw (start.first) (element_goes (subst (λ b. Within c (part Part.selection ∷ []) b d after) start.first w))

-- a selection that stops
lost_alike : {test : Terminal → Bool} {n : Part} {c d : Counts} {xs ys : List Expected} {before here : List Placed} {k : Kind} → next_is test (next_of before) ≡ false →
    choose n (next_of before) ≡ None → Stops c (one test ∷ xs) before k here → Stops d (part n ∷ ys) before k here
lost_alike off none (no_terminal away) = no_part none
lost_alike off none (too_many test over_most) = cc
lost_alike off none (after_terminal test fits s) = cc

no_selection : {c : Counts} {before here : List Placed} {k : Kind} → next_is is_dot (next_of before) ≡ false → next_is is_open_bracket (next_of before) ≡ false →
    choose Part.selection_then (next_of before) ≡ None → Stops c (part Part.selection ∷ []) before k here → Stops c (part Part.selection_then ∷ []) before k here
no_selection dot bracket none s =
    lost_alike bracket none (part_stops {xs = one is_open_bracket ∷ part (Part.expr 0) ∷ one is_close_bracket ∷ []} (part_stops {xs = part Part.element ∷ []} s (rw dot refl)) refl)

selection_by : (t : Terminal) {c : Counts} {place : Place} {after here : List Placed} {k : Kind} → Stops c (part Part.selection ∷ []) (record { terminal = t; place = place } ∷ after) k here →
    Stops c (part Part.selection_then ∷ []) (record { terminal = t; place = place } ∷ after) k here
selection_by (terminal.Symbol Symbol.Dot) s = dot_stop s
selection_by (terminal.Symbol Symbol.OpenBracket) s = bracket_stop s
selection_by _ s = no_selection refl refl refl s

selection_stops : (before : List Placed) {c : Counts} {here : List Placed} {k : Kind} → Stops c (part Part.selection ∷ []) before k here → Stops c (part Part.selection_then ∷ []) before k here
selection_stops [] s = no_selection refl refl refl s
selection_stops (next ∷ after) s = selection_by next.terminal s

then_refused : (c : Counts) (before : List Placed) (end : Place) (stop : Stop) → IfRefused stop (Refuses c (part Part.selection ∷ []) before end) →
    IfRefused stop (Refuses c (part Part.selection_then ∷ []) before end)
then_refused c before end stop r = on_refused end stop (λ k here s. selection_stops before s) r

-- a selection after something in parentheses
pub inner_goes : {of found : PlainExpr} {c d e : Counts} {before here after : List Placed} → Next (terminal.Symbol Symbol.OpenParen) before → Within c (part Part.inner ∷ []) before d here →
    Within d (part Part.selection ∷ []) here e after → DerivesSelection of here after found →
    Onward c (stmt_begins before) before e (part (Part.selected_then (ending_of found)) ∷ []) after
inner_goes n w v s = over (inner_enter n) (over (step _ w) (selection_goes s v))

pub inner_selection_refused : {c d : Counts} {before here : List Placed} (end : Place) {last : Place} (stop : Stop) → Next (terminal.Symbol Symbol.OpenParen) before →
    Within c (part Part.inner ∷ []) before d here → last ≡ end → IfRefused stop (Refuses d (part Part.selection ∷ []) here last) → IfRefused stop (Refuses c (stmt_begins before) before end)
inner_selection_refused end stop n w same r = refused_on [] stop (over (inner_enter n) (step (part Part.selection_then ∷ []) w)) same (then_refused _ _ _ stop r)

-- an expression of one terminal
value_goes : {c d : Counts} {before after : List Placed} → stmt_begins before ≡ part Part.performed ∷ [] →
    choose Part.performed (next_of before) ≡ Some (part Part.literal ∷ part (Part.selected_then as_value) ∷ []) → Within c (part Part.literal ∷ []) before d after →
    Onward c (stmt_begins before) before d (part (Part.selected_then as_value) ∷ []) after
value_goes performed chosen w = rw performed (over (enter Part.performed chosen (λ d. refl)) (step (part (Part.selected_then as_value) ∷ []) w))

name_read : {c d : Counts} {n : ℕ} {place : Place} {here after : List Placed} → Within c (one is_any ∷ []) (record { terminal = terminal.Name n; place = place } ∷ here) d after →
    Within c (one is_name ∷ []) (record { terminal = terminal.Name n; place = place } ∷ here) d after
name_read (passes test fits w) = passes refl fits w

local_goes : {c d : Counts} {n : ℕ} {place : Place} {after : List Placed} → follows_a_type after ≡ false →
    Within c (part Part.literal ∷ []) (record { terminal = terminal.Name n; place = place } ∷ after) d after →
    Onward c (stmt_begins (record { terminal = terminal.Name n; place = place } ∷ after)) (record { terminal = terminal.Name n; place = place } ∷ after) d (part (Part.selected_then as_name) ∷ []) after
local_goes {after = after} off w =
    let v = inside_of {xs = one is_any ∷ []} w refl (λ e. refl) in
    over (step (part Part.after_name ∷ []) (name_read v)) (name_goes after off)

primary_goes : {ending : Ending} {e : PlainExpr} {c d : Counts} {before after : List Placed} → begins_declaration before ≡ false → (Next (terminal.Keyword Keyword.New) before → ⊥) →
    (Next (terminal.Symbol Symbol.OpenParen) before → ⊥) → Within c (part Part.literal ∷ []) before d after → DerivesPrimary ending before after e →
    Onward c (stmt_begins before) before d (part (Part.selected_then ending) ∷ []) after
primary_goes other new paren w (DerivesPrimary.number takes) = value_goes (rw (takes.first) refl) (rw (takes.first) refl) w
primary_goes other new paren w (DerivesPrimary.yes takes) = value_goes (rw (takes.first) refl) (rw (takes.first) refl) w
primary_goes other new paren w (DerivesPrimary.no takes) = value_goes (rw (takes.first) refl) (rw (takes.first) refl) w
primary_goes other new paren w (DerivesPrimary.nothing takes) = value_goes (rw (takes.first) refl) (rw (takes.first) refl) w
primary_goes other new paren w (DerivesPrimary.receiver takes) = value_goes (rw (takes.first) refl) (rw (takes.first) refl) w
primary_goes {c = c} {d} {after = after} other new paren w (DerivesPrimary.name takes) =
    let off : follows_a_type after ≡ false = subst (λ b. begins_declaration b ≡ false) takes.first other in
    rw (takes.first) (local_goes off (subst (λ b. Within c (part Part.literal ∷ []) b d after) takes.first w))
primary_goes other new paren w (DerivesPrimary.parenthesised takes e close) = absurd (paren (record { after = _; takes = record { place = _; takes = takes } }))
primary_goes other new paren w (DerivesPrimary.creation takes name paths all) = absurd (new (record { after = _; takes = record { place = _; takes = takes } }))

pub literal_goes : {e : PlainExpr} {c d : Counts} {before after : List Placed} → IsTarget before → (Next (terminal.Keyword Keyword.New) before → ⊥) →
    (Next (terminal.Symbol Symbol.OpenParen) before → ⊥) → Within c (part Part.literal ∷ []) before d after → DerivesPrimary (ending_of e) before after e →
    Onward c (stmt_begins before) before d (part (Part.selected_then (ending_of e)) ∷ []) after
literal_goes target new paren w d = primary_goes target.other new paren w d

-- where no such terminal comes
performed_by : (t : Terminal) → is_new t ≡ false → is_open_paren t ≡ false → performed_parts t ≡ part Part.literal ∷ part (Part.selected_then as_value) ∷ []
performed_by (terminal.Keyword Keyword.New) new paren = cc
performed_by (terminal.Symbol Symbol.OpenParen) new paren = cc
performed_by _ new paren = refl

performed_choice : (here : List Placed) → next_is is_new (next_of here) ≡ false → next_is is_open_paren (next_of here) ≡ false →
    choose Part.performed (next_of here) ≡ Some (part Part.literal ∷ part (Part.selected_then as_value) ∷ [])
performed_choice [] new paren = refl
performed_choice (next ∷ after) new paren = ap Some (performed_by next.terminal new paren)

name_stops : {c : Counts} {n : ℕ} {place : Place} {after here : List Placed} {k : Kind} {ys : List Expected} → Stops c (one is_any ∷ []) (record { terminal = terminal.Name n; place = place } ∷ after) k here →
    Stops c (one is_name ∷ ys) (record { terminal = terminal.Name n; place = place } ∷ after) k here
name_stops (no_terminal none) = cc
name_stops (too_many test over_most) = too_many refl over_most
name_stops (after_terminal test fits s) = elim s [ ]

local_by : (t : Terminal) {c : Counts} {place : Place} {after here : List Placed} {k : Kind} → is_name t ≡ true →
    Stops c (part Part.literal ∷ []) (record { terminal = t; place = place } ∷ after) k here →
    Stops c (stmt_begins (record { terminal = t; place = place } ∷ after)) (record { terminal = t; place = place } ∷ after) k here
local_by (terminal.Name n) on s = name_stops (part_stops {xs = one is_any ∷ []} s refl)
local_by (terminal.Int n) on s = cc
local_by (terminal.Text text) on s = cc
local_by (terminal.Symbol symbol) on s = cc
local_by (terminal.Keyword keyword) on s = cc

local_stops : (before : List Placed) {c : Counts} {here : List Placed} {k : Kind} → next_is is_name (next_of before) ≡ true → Stops c (part Part.literal ∷ []) before k here → Stops c (stmt_begins before) before k here
local_stops [] on s = cc
local_stops (next ∷ after) on s = local_by next.terminal on s

value_stops : {c : Counts} {before here : List Placed} {k : Kind} → stmt_begins before ≡ part Part.performed ∷ [] →
    choose Part.performed (next_of before) ≡ Some (part Part.literal ∷ part (Part.selected_then as_value) ∷ []) → Stops c (part Part.literal ∷ []) before k here → Stops c (stmt_begins before) before k here
value_stops performed chosen s = rw performed (in_part chosen (stops_first (part (Part.selected_then as_value) ∷ []) s))

literal_stops : {c : Counts} (before : List Placed) {here : List Placed} {k : Kind} → IsTarget before → (Next (terminal.Keyword Keyword.New) before → ⊥) →
    (Next (terminal.Symbol Symbol.OpenParen) before → ⊥) → Stops c (part Part.literal ∷ []) before k here → Stops c (stmt_begins before) before k here
literal_stops before target new paren s = elim target.begins [
  | inl performed ↦ value_stops performed (performed_choice before (keyword_comes_not Keyword.New before new) (symbol_comes_not Symbol.OpenParen before paren)) s
  | inr name ↦ local_stops before name s
]

pub literal_refused : (c : Counts) (before : List Placed) (end : Place) (stop : Stop) → IsTarget before → (Next (terminal.Keyword Keyword.New) before → ⊥) →
    (Next (terminal.Symbol Symbol.OpenParen) before → ⊥) → IfRefused stop (Refuses c (part Part.literal ∷ []) before end) → IfRefused stop (Refuses c (stmt_begins before) before end)
literal_refused c before end stop target new paren r = on_refused end stop (λ k here s. literal_stops before target new paren s) r

-- any number of selections after the shortest one
pub target_on : {of found : PlainExpr} {c d e : Counts} {before here after : List Placed} {b : Bool} → Onward c (stmt_begins before) before d (part (Part.selected_then (ending_of of)) ∷ []) here →
    b ≡ (next_is is_dot (next_of here) || next_is is_open_bracket (next_of here)) → b ≡ true → Within d (part Part.selection ∷ []) here e after → DerivesSelection of here after found →
    Onward c (stmt_begins before) before e (part (Part.selected_then (ending_of found)) ∷ []) after
target_on o is selects w s = over o (over (then_enter _ (sym is ∙ selects)) (selection_goes s w))

pub target_refused : {ending : Ending} {c d : Counts} {before here : List Placed} {b : Bool} (end : Place) {last : Place} (stop : Stop) →
    Onward c (stmt_begins before) before d (part (Part.selected_then ending) ∷ []) here → b ≡ (next_is is_dot (next_of here) || next_is is_open_bracket (next_of here)) → b ≡ true → last ≡ end →
    IfRefused stop (Refuses d (part Part.selection ∷ []) here last) → IfRefused stop (Refuses c (stmt_begins before) before end)
target_refused end stop o is selects same r = refused_on [] stop (over o (then_enter _ (sym is ∙ selects))) same (then_refused _ _ _ stop r)

pub target_ends : (e : PlainExpr) {c d : Counts} {before here : List Placed} {b : Bool} → Onward c (stmt_begins before) before d (part (Part.selected_then (ending_of e)) ∷ []) here →
    b ≡ (next_is is_dot (next_of here) || next_is is_open_bracket (next_of here)) → b ≡ false → Leads c before (ending_of e) d here
target_ends e o is no_more = target_leads _ o (sym is ∙ no_more)

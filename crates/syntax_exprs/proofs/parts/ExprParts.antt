-- The parts of the grammar's Expr productions, by what they begin with.
use Rattle.std.proofs.Common.{◌≡◌, List, [], ◌∷◌, true, Some, None, refl}
use Rattle.lang_base.specs.Refused.{IfRefused}
use Rattle.lang_base.specs.declared.place.Place.{Place}
use Rattle.lang_base.specs.declared.refusal.Kind.TheVariants as kind
use Rattle.lang_base.specs.declared.refusal.Stop.{Stop}
use Rattle.syntax_tokens.specs.declared.token.Symbol.{Symbol}
use Rattle.syntax_tokens.specs.declared.terminal.Placed.{Placed}
use Rattle.syntax_tokens.specs.declared.terminal.Terminal.{Terminal}
use Rattle.syntax_tokens.specs.declared.terminal.Terminal.TheVariants as terminal
use Rattle.syntax_tree.specs.Plain.{ExprForm}
use Rattle.syntax_grammar.specs.Words.{is_any, is_comma, is_name, is_new, is_open_paren, is_close_paren, is_open_bracket, is_close_bracket}
use Rattle.syntax_grammar.specs.Taking.{Next, place_of}
use Rattle.syntax_grammar.specs.Reading.{Spells, NextSpells}
use Rattle.syntax_grammar.specs.Expecting.{Part, one, part, choose, literal_parts, next_is, next_of}
use Rattle.syntax_grammar.specs.Limits.{Counts, Fits, past, more, Within, passes, no_part, Refuses}
use Rattle.syntax_exprs.specs.Counted.{Halts}
use Rattle.syntax_exprs.specs.Onward.{Onward}
use Rattle.syntax_exprs.proofs.Onwards.{over, step, enter, ends, refused_on}
use Rattle.syntax_exprs.proofs.Composed.{seq, read_part, refused_part}
use Rattle.syntax_exprs.proofs.Coming.{read_any, next_comes, symbol_comes_not}

spelled_parts : {t : Terminal} {form : ExprForm} → Spells t form → literal_parts t ≡ Some (one is_any ∷ [])
spelled_parts Spells.number = refl
spelled_parts Spells.name = refl
spelled_parts Spells.yes = refl
spelled_parts Spells.no = refl
spelled_parts Spells.nothing = refl
spelled_parts Spells.receiver = refl

spelled_plain : {t : Terminal} {form : ExprForm} (c : Counts) → Spells t form → past t c ≡ c
spelled_plain c Spells.number = refl
spelled_plain c Spells.name = refl
spelled_plain c Spells.yes = refl
spelled_plain c Spells.no = refl
spelled_plain c Spells.nothing = refl
spelled_plain c Spells.receiver = refl

literal_begins : {here : List Placed} {form : ExprForm} → NextSpells here form → choose Part.literal (next_of here) ≡ Some (one is_any ∷ [])
literal_begins n = rw (n.next.takes.takes.first) (spelled_parts n.spells)

pub literal_reads : {before after : List Placed} {form : ExprForm} {next : Placed} {c d : Counts} → NextSpells before form → before ≡ next ∷ after → Fits c → d ≡ c →
    Within c (part Part.literal ∷ []) before d after
literal_reads {before} {after} {next = next} {c} {d} n is fits same =
    let t : next.terminal ≡ n.terminal = let f = n.next.takes.takes.first in cc in
    let plain : d ≡ past next.terminal c = rw (t, spelled_plain c n.spells) same in
    read_part c d Part.literal _ before after (literal_begins n) (read_any is refl fits plain)

pub literal_halts : (c : Counts) (end : Place) (stop : Stop) {before : List Placed} {form : ExprForm} → NextSpells before form → IfRefused stop (Halts c before end) →
    IfRefused stop (Refuses c (part Part.literal ∷ []) before end)
literal_halts c end (Stop.Refused refusal) {before} n h = refused_part c Part.literal _ before end (Stop.Refused refusal) (literal_begins n) (h.stops is_any (λ next after is. refl))
literal_halts c end Stop.NoMemory n h = h

pub no_literal_at_end : {here : List Placed} → here ≡ [] → choose Part.literal (next_of here) ≡ None
no_literal_at_end e = rw e refl

pub no_literal : {t : Terminal} {here : List Placed} → Next t here → literal_parts t ≡ None → choose Part.literal (next_of here) ≡ None
no_literal n none = rw (n.takes.takes.first) none

pub next_spells : {t : Terminal} {here : List Placed} {form : ExprForm} → Next t here → Spells t form → NextSpells here form
next_spells n spells = record { terminal = _; next = n; spells = spells }

pub literal_lost : (c : Counts) (here : List Placed) (end : Place) (stop : Stop) → choose Part.literal (next_of here) ≡ None →
    stop ≡ Stop.Refused (record { kind = kind.Syntax; place = place_of here end }) → IfRefused stop (Refuses c (part Part.literal ∷ []) here end)
literal_lost c here end stop none is = rw is (record { here = here; stops = no_part none; place = refl })

-- the `[` of a new array, after which its length comes, or `]`
pub array_opened : {c d : Counts} {before after : List Placed} → Within (more c) (one is_open_bracket ∷ []) before d after →
    Onward c (part Part.array ∷ []) before d (part Part.array_open ∷ []) after
array_opened w = over (enter Part.array refl (λ d. refl)) (step _ w)

pub array_refused : (c : Counts) (before : List Placed) (end : Place) (stop : Stop) → IfRefused stop (Refuses (more c) (one is_open_bracket ∷ []) before end) →
    IfRefused stop (Refuses c (part Part.array ∷ []) before end)
array_refused c before end stop r = refused_on _ stop (enter Part.array refl (λ d. refl)) refl r

suffix_opened : {c : Counts} {here : List Placed} → Next (terminal.Symbol Symbol.CloseBracket) here →
    Onward c (part Part.array_open ∷ []) here c (one is_close_bracket ∷ part Part.brackets_after ∷ part Part.array ∷ []) here
suffix_opened {here = here} n =
    enter Part.array_open (rw (next_comes Symbol.CloseBracket here n) refl) (λ d. refl)

pub length_opened : {c d : Counts} {before here : List Placed} → Onward c (part Part.array ∷ []) before d (part Part.array_open ∷ []) here →
    (Next (terminal.Symbol Symbol.CloseBracket) here → ⊥) →
    Onward c (part Part.array ∷ []) before d (part (Part.expr 0) ∷ one is_close_bracket ∷ part Part.brackets_after ∷ []) here
length_opened {here = here} o not =
    over o (enter Part.array_open (rw (symbol_comes_not Symbol.CloseBracket here not) refl) (λ d. refl))

pub suffix_read : {c d e f g : Counts} {before here one_after two_after after : List Placed} → Onward c (part Part.array ∷ []) before d (part Part.array_open ∷ []) here →
    Next (terminal.Symbol Symbol.CloseBracket) here → Within d (one is_close_bracket ∷ []) here e one_after →
    Within e (part Part.brackets_after ∷ []) one_after f two_after → Within (more f) (one is_open_bracket ∷ []) two_after g after →
    Onward c (part Part.array ∷ []) before g (part Part.array_open ∷ []) after
suffix_read o n close tail next = over o (over (suffix_opened n) (over (step _ close) (over (step _ tail) (array_opened next))))

pub suffix_close_refused : {c d : Counts} {before here : List Placed} (end : Place) {last : Place} (stop : Stop) → Onward c (part Part.array ∷ []) before d (part Part.array_open ∷ []) here →
    Next (terminal.Symbol Symbol.CloseBracket) here → last ≡ end → IfRefused stop (Refuses d (one is_close_bracket ∷ []) here last) →
    IfRefused stop (Refuses c (part Part.array ∷ []) before end)
suffix_close_refused end stop o n same r = refused_on _ stop (over o (suffix_opened n)) same r

pub suffix_tail_refused : {c d e : Counts} {before here one_after : List Placed} (end : Place) {last : Place} (stop : Stop) →
    Onward c (part Part.array ∷ []) before d (part Part.array_open ∷ []) here → Next (terminal.Symbol Symbol.CloseBracket) here →
    Within d (one is_close_bracket ∷ []) here e one_after → last ≡ end → IfRefused stop (Refuses e (part Part.brackets_after ∷ []) one_after last) →
    IfRefused stop (Refuses c (part Part.array ∷ []) before end)
suffix_tail_refused end stop o n close same r = refused_on _ stop (over o (over (suffix_opened n) (step _ close))) same r

pub suffix_open_refused : {c d e f : Counts} {before here one_after two_after : List Placed} (end : Place) {last : Place} (stop : Stop) →
    Onward c (part Part.array ∷ []) before d (part Part.array_open ∷ []) here → Next (terminal.Symbol Symbol.CloseBracket) here →
    Within d (one is_close_bracket ∷ []) here e one_after → Within e (part Part.brackets_after ∷ []) one_after f two_after → last ≡ end →
    IfRefused stop (Refuses (more f) (one is_open_bracket ∷ []) two_after last) → IfRefused stop (Refuses c (part Part.array ∷ []) before end)
suffix_open_refused {f = f} end {last} stop o n close tail same r =
    refused_on [] stop (over o (over (suffix_opened n) (over (step _ close) (step _ tail)))) same (array_refused f _ last stop r)

-- a new array, after the `[` of its length
pub array_reads : {c d e f g : Counts} {before at length_after close_after after : List Placed} →
    Onward c (part Part.array ∷ []) before d (part (Part.expr 0) ∷ one is_close_bracket ∷ part Part.brackets_after ∷ []) at → Within d (part (Part.expr 0) ∷ []) at e length_after →
    Within e (one is_close_bracket ∷ []) length_after f close_after → Within f (part Part.brackets_after ∷ []) close_after g after → Within c (part Part.array ∷ []) before g after
array_reads o len close tail = o.reads _ _ (seq len (seq close tail))

pub length_refused : {c d : Counts} {before at : List Placed} (end : Place) {last : Place} (stop : Stop) →
    Onward c (part Part.array ∷ []) before d (part (Part.expr 0) ∷ one is_close_bracket ∷ part Part.brackets_after ∷ []) at → last ≡ end →
    IfRefused stop (Refuses d (part (Part.expr 0) ∷ []) at last) → IfRefused stop (Refuses c (part Part.array ∷ []) before end)
length_refused end stop o same r = refused_on _ stop o same r

pub length_close_refused : {c d e : Counts} {before at length_after : List Placed} (end : Place) {last : Place} (stop : Stop) →
    Onward c (part Part.array ∷ []) before d (part (Part.expr 0) ∷ one is_close_bracket ∷ part Part.brackets_after ∷ []) at → Within d (part (Part.expr 0) ∷ []) at e length_after → last ≡ end →
    IfRefused stop (Refuses e (one is_close_bracket ∷ []) length_after last) → IfRefused stop (Refuses c (part Part.array ∷ []) before end)
length_close_refused end stop o len same r = refused_on _ stop (over o (step _ len)) same r

pub length_tail_refused : {c d e f : Counts} {before at length_after close_after : List Placed} (end : Place) {last : Place} (stop : Stop) →
    Onward c (part Part.array ∷ []) before d (part (Part.expr 0) ∷ one is_close_bracket ∷ part Part.brackets_after ∷ []) at → Within d (part (Part.expr 0) ∷ []) at e length_after →
    Within e (one is_close_bracket ∷ []) length_after f close_after → last ≡ end →
    IfRefused stop (Refuses f (part Part.brackets_after ∷ []) close_after last) → IfRefused stop (Refuses c (part Part.array ∷ []) before end)
length_tail_refused end stop o len close same r = refused_on _ stop (over o (over (step _ len) (step _ close))) same r

-- "(" Expr ")"
inner_enter : {c : Counts} {here : List Placed} → Onward c (part Part.inner ∷ []) here c (one is_open_paren ∷ part (Part.expr 0) ∷ one is_close_paren ∷ []) here
inner_enter = enter Part.inner refl (λ d. refl)

pub inner_reads : {c d e f : Counts} {before one_after two_after after : List Placed} → Within c (one is_open_paren ∷ []) before d one_after →
    Within d (part (Part.expr 0) ∷ []) one_after e two_after → Within e (one is_close_paren ∷ []) two_after f after → Within c (part Part.inner ∷ []) before f after
inner_reads start w close = inner_enter.reads _ _ (seq start (seq w close))

pub inner_refused : (c : Counts) (before : List Placed) (end : Place) (stop : Stop) → IfRefused stop (Refuses c (one is_open_paren ∷ []) before end) →
    IfRefused stop (Refuses c (part Part.inner ∷ []) before end)
inner_refused c before end stop r = refused_on _ stop inner_enter refl r

pub inner_expr_refused : {c d : Counts} {before one_after : List Placed} (end : Place) {last : Place} (stop : Stop) → Within c (one is_open_paren ∷ []) before d one_after → last ≡ end →
    IfRefused stop (Refuses d (part (Part.expr 0) ∷ []) one_after last) → IfRefused stop (Refuses c (part Part.inner ∷ []) before end)
inner_expr_refused end stop start same r = refused_on _ stop (over inner_enter (step _ start)) same r

pub inner_close_refused : {c d e : Counts} {before one_after two_after : List Placed} (end : Place) {last : Place} (stop : Stop) → Within c (one is_open_paren ∷ []) before d one_after →
    Within d (part (Part.expr 0) ∷ []) one_after e two_after → last ≡ end → IfRefused stop (Refuses e (one is_close_paren ∷ []) two_after last) →
    IfRefused stop (Refuses c (part Part.inner ∷ []) before end)
inner_close_refused end stop start w same r = refused_on _ stop (over inner_enter (over (step _ start) (step _ w))) same r

-- "[" Expr "]"
element_enter : {c : Counts} {here : List Placed} → Onward c (part Part.element ∷ []) here (more c) (one is_open_bracket ∷ part (Part.expr 0) ∷ one is_close_bracket ∷ []) here
element_enter = enter Part.element refl (λ d. refl)

pub element_reads : {c d e f : Counts} {before one_after two_after after : List Placed} → Within (more c) (one is_open_bracket ∷ []) before d one_after →
    Within d (part (Part.expr 0) ∷ []) one_after e two_after → Within e (one is_close_bracket ∷ []) two_after f after → Within c (part Part.element ∷ []) before f after
element_reads start w close = element_enter.reads _ _ (seq start (seq w close))

pub element_refused : (c : Counts) (before : List Placed) (end : Place) (stop : Stop) → IfRefused stop (Refuses (more c) (one is_open_bracket ∷ []) before end) →
    IfRefused stop (Refuses c (part Part.element ∷ []) before end)
element_refused c before end stop r = refused_on _ stop element_enter refl r

pub index_refused : (c : Counts) {d : Counts} {before one_after : List Placed} (end : Place) {last : Place} (stop : Stop) → Within (more c) (one is_open_bracket ∷ []) before d one_after → last ≡ end →
    IfRefused stop (Refuses d (part (Part.expr 0) ∷ []) one_after last) → IfRefused stop (Refuses c (part Part.element ∷ []) before end)
index_refused c end stop start same r = refused_on _ stop (over element_enter (step _ start)) same r

pub index_close_refused : (c : Counts) {d e : Counts} {before one_after two_after : List Placed} (end : Place) {last : Place} (stop : Stop) → Within (more c) (one is_open_bracket ∷ []) before d one_after →
    Within d (part (Part.expr 0) ∷ []) one_after e two_after → last ≡ end → IfRefused stop (Refuses e (one is_close_bracket ∷ []) two_after last) →
    IfRefused stop (Refuses c (part Part.element ∷ []) before end)
index_close_refused c end stop start w same r = refused_on _ stop (over element_enter (over (step _ start) (step _ w))) same r

-- "(" [ Actuals ] ")"
actuals_enter : {c : Counts} {here : List Placed} → Onward c (part Part.actuals ∷ []) here c (one is_open_paren ∷ part Part.actuals_rest ∷ []) here
actuals_enter = enter Part.actuals refl (λ d. refl)

actuals_empty : {c d : Counts} {before here : List Placed} → Within c (one is_open_paren ∷ []) before d here → Next (terminal.Symbol Symbol.CloseParen) here →
    Onward c (part Part.actuals ∷ []) before d (one is_close_paren ∷ []) here
actuals_empty {here = here} start n =
    over actuals_enter (over (step _ start) (enter Part.actuals_rest (rw (next_comes Symbol.CloseParen here n) refl) (λ d. refl)))

actuals_some : {c d : Counts} {before here : List Placed} → Within c (one is_open_paren ∷ []) before d here → (Next (terminal.Symbol Symbol.CloseParen) here → ⊥) →
    Onward c (part Part.actuals ∷ []) before d (part Part.listed ∷ one is_close_paren ∷ []) here
actuals_some {here = here} start away =
    over actuals_enter (over (step _ start) (enter Part.actuals_rest (rw (symbol_comes_not Symbol.CloseParen here away) refl) (λ d. refl)))

pub actuals_refused : (c : Counts) (before : List Placed) (end : Place) (stop : Stop) → IfRefused stop (Refuses c (one is_open_paren ∷ []) before end) →
    IfRefused stop (Refuses c (part Part.actuals ∷ []) before end)
actuals_refused c before end stop r = refused_on _ stop actuals_enter refl r

pub no_actuals_read : {c d e : Counts} {before here after : List Placed} → Within c (one is_open_paren ∷ []) before d here → Next (terminal.Symbol Symbol.CloseParen) here →
    Within d (one is_close_paren ∷ []) here e after → Within c (part Part.actuals ∷ []) before e after
no_actuals_read start n close = (actuals_empty start n).reads _ _ close

pub no_actuals_refused : {c d : Counts} {before here : List Placed} (end : Place) {last : Place} (stop : Stop) → Within c (one is_open_paren ∷ []) before d here →
    Next (terminal.Symbol Symbol.CloseParen) here → last ≡ end → IfRefused stop (Refuses d (one is_close_paren ∷ []) here last) → IfRefused stop (Refuses c (part Part.actuals ∷ []) before end)
no_actuals_refused end stop start n same r = refused_on _ stop (actuals_empty start n) same r

pub actuals_read : {c d e f : Counts} {before here one_after after : List Placed} → Within c (one is_open_paren ∷ []) before d here →
    (Next (terminal.Symbol Symbol.CloseParen) here → ⊥) → Within d (part Part.listed ∷ []) here e one_after → Within e (one is_close_paren ∷ []) one_after f after →
    Within c (part Part.actuals ∷ []) before f after
actuals_read start away w close = (actuals_some start away).reads _ _ (seq w close)

pub listed_refused : {c d : Counts} {before here : List Placed} (end : Place) {last : Place} (stop : Stop) → Within c (one is_open_paren ∷ []) before d here →
    (Next (terminal.Symbol Symbol.CloseParen) here → ⊥) → last ≡ end → IfRefused stop (Refuses d (part Part.listed ∷ []) here last) → IfRefused stop (Refuses c (part Part.actuals ∷ []) before end)
listed_refused end stop start away same r = refused_on _ stop (actuals_some start away) same r

pub actuals_close_refused : {c d e : Counts} {before here one_after : List Placed} (end : Place) {last : Place} (stop : Stop) → Within c (one is_open_paren ∷ []) before d here →
    (Next (terminal.Symbol Symbol.CloseParen) here → ⊥) → Within d (part Part.listed ∷ []) here e one_after → last ≡ end → IfRefused stop (Refuses e (one is_close_paren ∷ []) one_after last) →
    IfRefused stop (Refuses c (part Part.actuals ∷ []) before end)
actuals_close_refused end stop start away w same r = refused_on _ stop (over (actuals_some start away) (step _ w)) same r

-- Expr { "," Expr }
pub first_reads : {c d : Counts} {before here : List Placed} → Within c (part (Part.expr 0) ∷ []) before d here → Onward c (part Part.listed ∷ []) before d (part Part.more_listed ∷ []) here
first_reads w = over (enter Part.listed refl (λ d. refl)) (step _ w)

pub first_refused : (c : Counts) (before : List Placed) (end : Place) (stop : Stop) → IfRefused stop (Refuses c (part (Part.expr 0) ∷ []) before end) →
    IfRefused stop (Refuses c (part Part.listed ∷ []) before end)
first_refused c before end stop r = refused_on _ stop (enter Part.listed refl (λ d. refl)) refl r

comma_enter : {c : Counts} {here : List Placed} → Next (terminal.Symbol Symbol.Comma) here →
    Onward c (part Part.more_listed ∷ []) here c (one is_comma ∷ part (Part.expr 0) ∷ part Part.more_listed ∷ []) here
comma_enter {here = here} n = enter Part.more_listed (rw (next_comes Symbol.Comma here n) refl) (λ d. refl)

comma_first : {c d : Counts} {before after : List Placed} → Within c (one is_comma ∷ []) before d after → next_is is_comma (next_of before) ≡ true
comma_first (passes test fits w) = test

comma_read : {c d : Counts} {before after : List Placed} → Within c (one is_comma ∷ []) before d after → Onward c (part Part.more_listed ∷ []) before d (part (Part.expr 0) ∷ part Part.more_listed ∷ []) after
comma_read w = over (enter Part.more_listed (rw (comma_first w) refl) (λ d. refl)) (step _ w)

pub next_reads : {c d e f : Counts} {before here one_after after : List Placed} → Onward c (part Part.listed ∷ []) before d (part Part.more_listed ∷ []) here →
    Within d (one is_comma ∷ []) here e one_after → Within e (part (Part.expr 0) ∷ []) one_after f after → Onward c (part Part.listed ∷ []) before f (part Part.more_listed ∷ []) after
next_reads o comma w = over o (over (comma_read comma) (step _ w))

pub comma_refused : {c d : Counts} {before here : List Placed} (end : Place) {last : Place} (stop : Stop) → Onward c (part Part.listed ∷ []) before d (part Part.more_listed ∷ []) here →
    Next (terminal.Symbol Symbol.Comma) here → last ≡ end → IfRefused stop (Refuses d (one is_comma ∷ []) here last) → IfRefused stop (Refuses c (part Part.listed ∷ []) before end)
comma_refused end stop o n same r = refused_on _ stop (over o (comma_enter n)) same r

pub next_refused : {c d e : Counts} {before here one_after : List Placed} (end : Place) {last : Place} (stop : Stop) → Onward c (part Part.listed ∷ []) before d (part Part.more_listed ∷ []) here →
    Within d (one is_comma ∷ []) here e one_after → last ≡ end → IfRefused stop (Refuses e (part (Part.expr 0) ∷ []) one_after last) →
    IfRefused stop (Refuses c (part Part.listed ∷ []) before end)
next_refused end stop o comma same r = refused_on _ stop (over o (comma_read comma)) same r

pub listed_ends : {c d : Counts} {before here : List Placed} → Onward c (part Part.listed ∷ []) before d (part Part.more_listed ∷ []) here →
    (Next (terminal.Symbol Symbol.Comma) here → ⊥) → Within c (part Part.listed ∷ []) before d here
listed_ends {here = here} o away = ends (over o (enter Part.more_listed (rw (symbol_comes_not Symbol.Comma here away) refl) (λ d. refl)))

-- the creation of an object, with which a statement begins
pub new_reads : {c d e f g : Counts} {before one_after two_after three_after after : List Placed} → Within c (one is_new ∷ []) before d one_after → Within d (one is_name ∷ []) one_after e two_after →
    Within e (part Part.args_if ∷ []) two_after f three_after → Within f (part Part.actuals ∷ []) three_after g after →
    Within c (one is_new ∷ one is_name ∷ part Part.args_if ∷ part Part.actuals ∷ []) before g after
new_reads start name args all = seq start (seq name (seq args all))

pub class_refused : {c d : Counts} {before one_after : List Placed} (end : Place) {last : Place} (stop : Stop) → Within c (one is_new ∷ []) before d one_after → last ≡ end →
    IfRefused stop (Refuses d (one is_name ∷ []) one_after last) → IfRefused stop (Refuses c (one is_new ∷ one is_name ∷ part Part.args_if ∷ part Part.actuals ∷ []) before end)
class_refused end stop start same r = refused_on _ stop (step _ start) same r

pub class_args_refused : {c d e : Counts} {before one_after two_after : List Placed} (end : Place) {last : Place} (stop : Stop) → Within c (one is_new ∷ []) before d one_after →
    Within d (one is_name ∷ []) one_after e two_after → last ≡ end → IfRefused stop (Refuses e (part Part.args_if ∷ []) two_after last) →
    IfRefused stop (Refuses c (one is_new ∷ one is_name ∷ part Part.args_if ∷ part Part.actuals ∷ []) before end)
class_args_refused end stop start name same r = refused_on _ stop (over (step _ start) (step _ name)) same r

pub new_actuals_refused : {c d e f : Counts} {before one_after two_after three_after : List Placed} (end : Place) {last : Place} (stop : Stop) → Within c (one is_new ∷ []) before d one_after →
    Within d (one is_name ∷ []) one_after e two_after → Within e (part Part.args_if ∷ []) two_after f three_after → last ≡ end → IfRefused stop (Refuses f (part Part.actuals ∷ []) three_after last) →
    IfRefused stop (Refuses c (one is_new ∷ one is_name ∷ part Part.args_if ∷ part Part.actuals ∷ []) before end)
new_actuals_refused end stop start name args same r = refused_on _ stop (over (step _ start) (over (step _ name) (step _ args))) same r

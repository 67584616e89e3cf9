-- The parts of the grammar's Stmt productions, by what they begin with.
use Rattle.std.proofs.Common.{◌≡◌, ◌+◌, ◌-◌, arith, ℕ, List, [], ◌∷◌, Bool, true, false, cond, Some, Result, Ok, Err, OnOk, refl, ap, subst, sym}
use Rattle.lang_base.specs.Refused.{IfRefused}
use Rattle.lang_base.specs.declared.place.Place.{Place}
use Rattle.lang_base.specs.declared.refusal.Kind.{Kind}
use Rattle.lang_base.specs.declared.refusal.Stop.{Stop}
use Rattle.syntax_tokens.specs.declared.token.Keyword.{Keyword}
use Rattle.syntax_tokens.specs.declared.token.Symbol.{Symbol}
use Rattle.syntax_tokens.specs.declared.terminal.Placed.{Placed}
use Rattle.syntax_tokens.specs.declared.terminal.Terminal.{Terminal}
use Rattle.syntax_tokens.specs.declared.terminal.Terminal.TheVariants as terminal
use Rattle.syntax_exprs.specs.declared.cursor.Cursor.{Cursor}
use Rattle.syntax_grammar.specs.Expecting.{expr, Expected, one, part, choose, next_of, condition, value, range, return_rest, shown, stmt, stmts, body, block, else_if, stmt_parts}
use Rattle.syntax_grammar.specs.Limits.{Counts, Fits, deeper, inside, Within, nothing, begins, Stops, in_part}
use Rattle.syntax_exprs.specs.Counted.{counts, Completed, Halts, MayCome, Took}
use Rattle.syntax_exprs.specs.Progress.{Reads, ReadsIf}
use Rattle.syntax_grammar.specs.Taking.{Next, TakesIf}
use Rattle.syntax_exprs.specs.Targets.{stmt_begins}
use Rattle.syntax_grammar.specs.Words.{is_any, is_close_brace, is_close_paren, is_else, is_open_brace, is_comma, is_in, is_int, is_name, is_open_paren, is_return, is_semicolon, is_text}
use Rattle.syntax_exprs.proofs.Coming.{halted, keyword_comes_not, next_comes, read_any, symbol_comes_not}
use Rattle.syntax_exprs.proofs.Composed.{Refused, seq, stops_after, stops_first, refused_first, refused_after, read_part, refused_part}

-- a refusal after what was read: the end of the text stays where it is
refused_later : (x : Expected) (ys : List Expected) {c d : Counts} {before between : List Placed} {end end_now : Place} (stop : Stop) →
    Within c (x ∷ []) before d between → end_now ≡ end → Refused d ys between end_now stop → Refused c (x ∷ ys) before end stop
refused_later x ys {c = c} {d = d} {before = before} {between = between} {end = end} stop w is r = refused_after c d x ys before between end stop w (rw is at r)

pub refused_second : (x y : Expected) (ys : List Expected) {c d : Counts} {before one_after : List Placed} {end end_one : Place} (stop : Stop) →
    Within c (x ∷ []) before d one_after → end_one ≡ end →
    Refused d (y ∷ []) one_after end_one stop → Refused c (x ∷ y ∷ ys) before end stop
refused_second x y ys {d = d} {one_after = one_after} {end_one = end_one} stop p is r = refused_later x (y ∷ ys) stop p is (refused_first d y ys one_after end_one stop r)

pub refused_third : (x y z : Expected) (ys : List Expected) {c d e : Counts} {before one_after two_after : List Placed} {end end_one end_two : Place} (stop : Stop) →
    Within c (x ∷ []) before d one_after → end_one ≡ end → Within d (y ∷ []) one_after e two_after → end_two ≡ end_one →
    Refused e (z ∷ []) two_after end_two stop → Refused c (x ∷ y ∷ z ∷ ys) before end stop
refused_third x y z ys stop p is q is_two r = refused_later x (y ∷ z ∷ ys) stop p is (refused_second y z ys stop q is_two r)

pub refused_fourth : (x y z u : Expected) (ys : List Expected) {c d e f : Counts} {before one_after two_after three_after : List Placed} {end end_one end_two end_three : Place} (stop : Stop) →
    Within c (x ∷ []) before d one_after → end_one ≡ end → Within d (y ∷ []) one_after e two_after → end_two ≡ end_one → Within e (z ∷ []) two_after f three_after → end_three ≡ end_two →
    Refused f (u ∷ []) three_after end_three stop → Refused c (x ∷ y ∷ z ∷ u ∷ ys) before end stop
refused_fourth x y z u ys stop p is q is_two k is_three r = refused_later x (y ∷ z ∷ u ∷ ys) stop p is (refused_third y z u ys stop q is_two k is_three r)

pub refused_fifth : (x y z u v : Expected) (ys : List Expected) {c d e f g : Counts} {before one_after two_after three_after four_after : List Placed} {end end_one end_two end_three end_four : Place} (stop : Stop) →
    Within c (x ∷ []) before d one_after → end_one ≡ end → Within d (y ∷ []) one_after e two_after → end_two ≡ end_one → Within e (z ∷ []) two_after f three_after → end_three ≡ end_two → Within f (u ∷ []) three_after g four_after → end_four ≡ end_three →
    Refused g (v ∷ []) four_after end_four stop → Refused c (x ∷ y ∷ z ∷ u ∷ v ∷ ys) before end stop
refused_fifth x y z u v ys stop p is q is_two k is_three l is_four r = refused_later x (y ∷ z ∷ u ∷ v ∷ ys) stop p is (refused_fourth y z u v ys stop q is_two k is_three l is_four r)

pub refused_sixth : (x y z u v w : Expected) (ys : List Expected) {c d e f g h : Counts} {before one_after two_after three_after four_after five_after : List Placed} {end end_one end_two end_three end_four end_five : Place} (stop : Stop) →
    Within c (x ∷ []) before d one_after → end_one ≡ end → Within d (y ∷ []) one_after e two_after → end_two ≡ end_one → Within e (z ∷ []) two_after f three_after → end_three ≡ end_two → Within f (u ∷ []) three_after g four_after → end_four ≡ end_three → Within g (v ∷ []) four_after h five_after → end_five ≡ end_four →
    Refused h (w ∷ []) five_after end_five stop → Refused c (x ∷ y ∷ z ∷ u ∷ v ∷ w ∷ ys) before end stop
refused_sixth x y z u v w ys stop p is q is_two k is_three l is_four m is_five r = refused_later x (y ∷ z ∷ u ∷ v ∷ w ∷ ys) stop p is (refused_fifth y z u v w ys stop q is_two k is_three l is_four m is_five r)

pub refused_seventh : (x y z u v w t : Expected) (ys : List Expected) {c d e f g h i : Counts} {before one_after two_after three_after four_after five_after six_after : List Placed} {end end_one end_two end_three end_four end_five end_six : Place} (stop : Stop) →
    Within c (x ∷ []) before d one_after → end_one ≡ end → Within d (y ∷ []) one_after e two_after → end_two ≡ end_one → Within e (z ∷ []) two_after f three_after → end_three ≡ end_two → Within f (u ∷ []) three_after g four_after → end_four ≡ end_three → Within g (v ∷ []) four_after h five_after → end_five ≡ end_four → Within h (w ∷ []) five_after i six_after → end_six ≡ end_five →
    Refused i (t ∷ []) six_after end_six stop → Refused c (x ∷ y ∷ z ∷ u ∷ v ∷ w ∷ t ∷ ys) before end stop
refused_seventh x y z u v w t ys stop p is q is_two k is_three l is_four m is_five n is_six r = refused_later x (y ∷ z ∷ u ∷ v ∷ w ∷ t ∷ ys) stop p is (refused_sixth y z u v w t ys stop q is_two k is_three l is_four m is_five n is_six r)

pub reads_two : {x y : Expected} {c d e : Counts} {before one_after after : List Placed} →
    Within c (x ∷ []) before d one_after → Within d (y ∷ []) one_after e after → Within c (x ∷ y ∷ []) before e after
reads_two p q = seq p q

pub reads_three : {x y z : Expected} {c d e f : Counts} {before one_after two_after after : List Placed} →
    Within c (x ∷ []) before d one_after → Within d (y ∷ []) one_after e two_after → Within e (z ∷ []) two_after f after → Within c (x ∷ y ∷ z ∷ []) before f after
reads_three p q k = seq p (reads_two q k)

pub reads_four : {x y z u : Expected} {c d e f g : Counts} {before one_after two_after three_after after : List Placed} →
    Within c (x ∷ []) before d one_after → Within d (y ∷ []) one_after e two_after → Within e (z ∷ []) two_after f three_after → Within f (u ∷ []) three_after g after → Within c (x ∷ y ∷ z ∷ u ∷ []) before g after
reads_four p q k l = seq p (reads_three q k l)

pub reads_five : {x y z u v : Expected} {c d e f g h : Counts} {before one_after two_after three_after four_after after : List Placed} →
    Within c (x ∷ []) before d one_after → Within d (y ∷ []) one_after e two_after → Within e (z ∷ []) two_after f three_after → Within f (u ∷ []) three_after g four_after → Within g (v ∷ []) four_after h after → Within c (x ∷ y ∷ z ∷ u ∷ v ∷ []) before h after
reads_five p q k l m = seq p (reads_four q k l m)

pub reads_six : {x y z u v w : Expected} {c d e f g h i : Counts} {before one_after two_after three_after four_after five_after after : List Placed} →
    Within c (x ∷ []) before d one_after → Within d (y ∷ []) one_after e two_after → Within e (z ∷ []) two_after f three_after → Within f (u ∷ []) three_after g four_after → Within g (v ∷ []) four_after h five_after → Within h (w ∷ []) five_after i after → Within c (x ∷ y ∷ z ∷ u ∷ v ∷ w ∷ []) before i after
reads_six p q k l m n = seq p (reads_five q k l m n)

pub reads_seven : {x y z u v w t : Expected} {c d e f g h i j : Counts} {before one_after two_after three_after four_after five_after six_after after : List Placed} →
    Within c (x ∷ []) before d one_after → Within d (y ∷ []) one_after e two_after → Within e (z ∷ []) two_after f three_after → Within f (u ∷ []) three_after g four_after → Within g (v ∷ []) four_after h five_after → Within h (w ∷ []) five_after i six_after → Within i (t ∷ []) six_after j after → Within c (x ∷ y ∷ z ∷ u ∷ v ∷ w ∷ t ∷ []) before j after
reads_seven p q k l m n o = seq p (reads_six q k l m n o)

-- what is expected one after another is read, or refused at one of them
pub ruleset in_order = (reads_two, reads_three, reads_four, reads_five, reads_six, reads_seven, refused_first, refused_second, refused_third, refused_fourth, refused_fifth, refused_sixth, refused_seventh)

pub condition_reads : {c d : Counts} {before after : List Placed} → Within c (one is_open_paren ∷ part (expr 0) ∷ one is_close_paren ∷ []) before d after → Within c (part condition ∷ []) before d after
condition_reads w = read_part _ _ condition _ _ _ refl w

pub condition_refused : (c : Counts) (before : List Placed) (end : Place) (stop : Stop) →
    Refused c (one is_open_paren ∷ part (expr 0) ∷ one is_close_paren ∷ []) before end stop → Refused c (part condition ∷ []) before end stop
condition_refused c before end stop r = refused_part c condition _ before end stop refl r

pub ruleset of_condition = (in_order, condition_reads, condition_refused)

pub value_reads : {c d : Counts} {before after : List Placed} → Within c (part (expr 0) ∷ one is_semicolon ∷ []) before d after → Within c (part value ∷ []) before d after
value_reads w = read_part _ _ value _ _ _ refl w

pub value_refused : (c : Counts) (before : List Placed) (end : Place) (stop : Stop) →
    Refused c (part (expr 0) ∷ one is_semicolon ∷ []) before end stop → Refused c (part value ∷ []) before end stop
value_refused c before end stop r = refused_part c value _ before end stop refl r

pub ruleset of_value = (in_order, value_reads, value_refused)

abbrev pub range_parts : List Expected
range_parts = one is_int ∷ one is_name ∷ one is_in ∷ part (expr 0) ∷ one is_comma ∷ part (expr 0) ∷ one is_close_paren ∷ []

pub range_reads : {c d : Counts} {before after : List Placed} → Within c range_parts before d after → Within c (part range ∷ []) before d after
range_reads w = read_part _ _ range _ _ _ refl w

pub range_refused : (c : Counts) (before : List Placed) (end : Place) (stop : Stop) → Refused c range_parts before end stop → Refused c (part range ∷ []) before end stop
range_refused c before end stop r = refused_part c range _ before end stop refl r

pub range_not_closed : {c d e f g h i : Counts} {before one_after two_after three_after four_after five_after six_after : List Placed} {end end_one end_two end_three end_four end_five end_six : Place} (stop : Stop) →
    Within c (one is_int ∷ []) before d one_after → end_one ≡ end → Within d (one is_name ∷ []) one_after e two_after → end_two ≡ end_one →
    Within e (one is_in ∷ []) two_after f three_after → end_three ≡ end_two → Within f (part (expr 0) ∷ []) three_after g four_after → end_four ≡ end_three →
    Within g (one is_comma ∷ []) four_after h five_after → end_five ≡ end_four → Within h (part (expr 0) ∷ []) five_after i six_after → end_six ≡ end_five →
    Refused i (one is_close_paren ∷ []) six_after end_six stop → Refused c (part range ∷ []) before end stop
range_not_closed {c = c} {before = before} {end = end} stop p is q is_two k is_three l is_four m is_five n is_six r =
    range_refused c before end stop (refused_seventh _ _ _ _ _ _ _ [] stop p is q is_two k is_three l is_four m is_five n is_six r)

pub ruleset of_range = (reads_seven, refused_first, refused_second, refused_third, refused_fourth, refused_fifth, refused_sixth, range_reads, range_refused)

shown_text : {text : List ℕ} {here : List Placed} → Next (terminal.Text text) here → choose shown (next_of here) ≡ Some (one is_text ∷ [])
shown_text n = rw (n.takes.takes.first) refl

is_no_text : (t : Terminal) {place : Place} {after : List Placed} → ((text : List ℕ) → Next (terminal.Text text) (record { terminal = t; place = place } ∷ after) → ⊥) → is_text t ≡ false
is_no_text (terminal.Text text) {place = place} {after = after} none = absurd (none text (record { after = after; takes = record { place = place; takes = record { first = refl } } }))
is_no_text (terminal.Name n) none = refl
is_no_text (terminal.Int n) none = refl
is_no_text (terminal.Symbol s) none = refl
is_no_text (terminal.Keyword k) none = refl

shown_value : (here : List Placed) → ((text : List ℕ) → Next (terminal.Text text) here → ⊥) → choose shown (next_of here) ≡ Some (part (expr 0) ∷ [])
shown_value [] none = refl
shown_value (next ∷ after) none = rw (is_no_text next.terminal none) refl

pub reads_text : {text : List ℕ} {c d : Counts} {before after : List Placed} {next : Placed} →
    Next (terminal.Text text) before → before ≡ next ∷ after → Fits c → d ≡ c → Within c (part shown ∷ []) before d after
reads_text {text = text} {c = c} {next = next} n is fits same =
    let it : next.terminal ≡ terminal.Text text = let f = n.takes.takes.first in cc in
    read_part _ _ shown _ _ _ (shown_text n) (read_any is (rw it refl) fits (rw (it, same) refl))

pub text_refused : {text : List ℕ} (c : Counts) (here : List Placed) (end : Place) (stop : Stop) →
    Next (terminal.Text text) here → IfRefused stop (Halts c here end) → Refused c (part shown ∷ []) here end stop
text_refused {text = text} c here end stop n h =
    let may : MayCome is_text here = λ next after is. let it : next.terminal ≡ terminal.Text text = let f = n.takes.takes.first in cc in rw it refl in
    refused_part c shown _ here end stop (shown_text n) (halted is_text here end c stop may h)

pub reads_shown_value : {c d : Counts} {before after : List Placed} → ((text : List ℕ) → Next (terminal.Text text) before → ⊥) →
    Within c (part (expr 0) ∷ []) before d after → Within c (part shown ∷ []) before d after
reads_shown_value none w = read_part _ _ shown _ _ _ (shown_value _ none) w

pub shown_value_refused : (c : Counts) (before : List Placed) (end : Place) (stop : Stop) → ((text : List ℕ) → Next (terminal.Text text) before → ⊥) →
    Refused c (part (expr 0) ∷ []) before end stop → Refused c (part shown ∷ []) before end stop
shown_value_refused c before end stop none r = refused_part c shown _ before end stop (shown_value before none) r

pub ruleset of_shown = (reads_text, text_refused, reads_shown_value, shown_value_refused)

return_ends : {here : List Placed} → Next (terminal.Symbol Symbol.Semicolon) here → choose return_rest (next_of here) ≡ Some (one is_semicolon ∷ [])
return_ends {here = here} n = rw (n.takes.takes.first) refl

return_goes_on : (here : List Placed) → (Next (terminal.Symbol Symbol.Semicolon) here → ⊥) → choose return_rest (next_of here) ≡ Some (part value ∷ [])
return_goes_on here none = ap (λ b. Some (cond b (one is_semicolon ∷ []) (part value ∷ []))) (symbol_comes_not Symbol.Semicolon here none)

pub reads_return : {c d e : Counts} {before one_after after : List Placed} (found : Bool) → Within c (one is_return ∷ []) before d one_after →
    TakesIf (terminal.Symbol Symbol.Semicolon) found one_after after → (found ≡ true → Within d (one is_semicolon ∷ []) one_after e after) → found ≡ true →
    Within c (one is_return ∷ part return_rest ∷ []) before e after
reads_return false p takes w is = absurd (cc is)
reads_return true p takes w is = seq p (read_part _ _ return_rest _ _ _ (return_ends (record { after = _; takes = takes })) (w is))

pub reads_return_value : {c e : Counts} {before after : List Placed} (old new : Cursor) (found : Bool) → Within c (one is_return ∷ []) before (counts old) old.rest.now →
    TakesIf (terminal.Symbol Symbol.Semicolon) found old.rest.now new.rest.now → ReadsIf found old new → found ≡ false →
    Within (counts new) (part value ∷ []) new.rest.now e after → Within c (one is_return ∷ part return_rest ∷ []) before e after
reads_return_value old new true p takes same is w = absurd (cc is)
reads_return_value old new false p takes same is w =
    seq p (read_part _ _ return_rest _ _ _ (return_goes_on old.rest.now takes.0) (rw (← same) w))

pub return_end_refused : {c d : Counts} {before one_after : List Placed} {end end_one : Place} (stop : Stop) → Within c (one is_return ∷ []) before d one_after → end_one ≡ end →
    Next (terminal.Symbol Symbol.Semicolon) one_after → Refused d (one is_semicolon ∷ []) one_after end_one stop → Refused c (one is_return ∷ part return_rest ∷ []) before end stop
return_end_refused {d = d} {one_after = one_after} {end_one = end_one} stop p is n r = refused_second _ _ [] stop p is (refused_part d return_rest _ one_after end_one stop (return_ends n) r)

pub return_value_refused : {c : Counts} {before : List Placed} {end : Place} (old new : Cursor) (found : Bool) (stop : Stop) → Within c (one is_return ∷ []) before (counts old) old.rest.now → old.end ≡ end →
    TakesIf (terminal.Symbol Symbol.Semicolon) found old.rest.now new.rest.now → ReadsIf found old new → found ≡ false →
    Refused (counts new) (part value ∷ []) new.rest.now new.end stop → Refused c (one is_return ∷ part return_rest ∷ []) before end stop
return_value_refused old new true stop p end takes same is r = absurd (cc is)
return_value_refused old new false stop p end takes same is r =
    refused_second _ _ [] stop p end (refused_part (counts old) return_rest _ old.rest.now old.end stop (return_goes_on old.rest.now takes.0) (rw (← same) r))

pub ruleset of_return = (refused_first, reads_return, reads_return_value, return_end_refused, return_value_refused)

-- a statement by its first terminal
pub begins_reads : (t : Terminal) {c d : Counts} {before after : List Placed} → Next t before → Within c (stmt_parts t) before d after → Within c (stmt_begins before) before d after
begins_reads t {c = c} {d = d} {after = after} n w = let P : List Placed → Type 0 = λ l. Within c (stmt_parts t) l d after → Within c (stmt_begins l) l d after in subst P (sym (n.takes.takes.first)) (λ v. v) w

pub begins_refused : (t : Terminal) (c : Counts) (before : List Placed) (end : Place) (stop : Stop) → Next t before → Refused c (stmt_parts t) before end stop → Refused c (stmt_begins before) before end stop
begins_refused t c before end stop n r = let P : List Placed → Type 0 = λ l. Refused c (stmt_parts t) l end stop → Refused c (stmt_begins l) l end stop in subst P (sym (n.takes.takes.first)) (λ v. v) r

pub ruleset of_begin = (begins_reads, begins_refused)

abbrev pub block_parts : List Expected
block_parts = one is_open_brace ∷ part stmts ∷ one is_close_brace ∷ []

pub block_reads : {c d : Counts} {before after : List Placed} → Within c block_parts before d after → Within c (part block ∷ []) before d after
block_reads w = read_part _ _ block _ _ _ refl w

pub block_refused : (c : Counts) (before : List Placed) (end : Place) (stop : Stop) → Refused c block_parts before end stop → Refused c (part block ∷ []) before end stop
block_refused c before end stop r = refused_part c block _ before end stop refl r

pub ruleset of_block = (reads_three, refused_first, refused_second, refused_third, block_reads, block_refused)

-- what begins with a keyword that was seen already
pub reads_seen : (k : Keyword) (old new : Cursor) → Next (terminal.Keyword k) old.rest.now → Took old new → Within (counts old) (one is_any ∷ []) old.rest.now (counts new) new.rest.now
reads_seen k old new n took =
    let it : took.next.terminal ≡ terminal.Keyword k = let f = n.takes.takes.first in let g = took.is in cc in
    read_any took.is refl took.fits (rw it took.same)

pub seen_refused : (c : Counts) (here : List Placed) (end : Place) (stop : Stop) → IfRefused stop (Halts c here end) → Refused c (one is_any ∷ []) here end stop
seen_refused c here end stop h = halted is_any here end c stop (λ next after is. refl) h

pub ruleset of_seen = (in_order, reads_seen, seen_refused)

-- an `else` belongs to the statement in front of it
else_comes : {here : List Placed} → Next (terminal.Keyword Keyword.Else) here → choose else_if (next_of here) ≡ Some (one is_else ∷ part body ∷ [])
else_comes n = rw (n.takes.takes.first) refl

else_comes_not : (here : List Placed) → (Next (terminal.Keyword Keyword.Else) here → ⊥) → choose else_if (next_of here) ≡ Some []
else_comes_not here none = ap (λ b. Some (cond b (one is_else ∷ part body ∷ []) [])) (keyword_comes_not Keyword.Else here none)

pub reads_no_else : (old new : Cursor) (found : Bool) → TakesIf (terminal.Keyword Keyword.Else) found old.rest.now new.rest.now → ReadsIf found old new → found ≡ false →
    Within (counts old) (part else_if ∷ []) old.rest.now (counts new) new.rest.now
reads_no_else old new true takes same is = absurd (cc is)
reads_no_else old new false takes same is = rw same (begins (else_comes_not old.rest.now takes.0) nothing nothing)

pub reads_else : {c d e : Counts} {before between after : List Placed} (found : Bool) → TakesIf (terminal.Keyword Keyword.Else) found before between →
    (found ≡ true → Within c (one is_else ∷ []) before d between) → found ≡ true → Within d (part body ∷ []) between e after → Within c (part else_if ∷ []) before e after
reads_else false takes w is v = absurd (cc is)
reads_else true takes w is v = read_part _ _ else_if _ _ _ (else_comes (record { after = _; takes = takes })) (seq (w is) v)

pub else_refused : (c : Counts) (before : List Placed) (end : Place) (stop : Stop) → Next (terminal.Keyword Keyword.Else) before → Refused c (one is_else ∷ []) before end stop →
    Refused c (part else_if ∷ []) before end stop
else_refused c before end stop n r = refused_part c else_if _ before end stop (else_comes n) (refused_first c _ (part body ∷ []) before end stop r)

pub else_body_refused : (old new : Cursor) (found : Bool) (stop : Stop) → TakesIf (terminal.Keyword Keyword.Else) found old.rest.now new.rest.now → ReadsIf found old new →
    (found ≡ true → Within (counts old) (one is_else ∷ []) old.rest.now (counts new) new.rest.now) → found ≡ true →
    Refused (counts new) (part body ∷ []) new.rest.now new.end stop → Refused (counts old) (part else_if ∷ []) old.rest.now old.end stop
else_body_refused old new false stop takes moves w is r = absurd (cc is)
else_body_refused old new true stop takes moves w is r =
    refused_part (counts old) else_if _ old.rest.now old.end stop (else_comes (record { after = _; takes = takes })) (refused_second _ _ [] stop (w is) moves.end r)

pub ruleset of_choice = (reads_four, refused_first, refused_second, refused_third, refused_fourth, reads_no_else, reads_else, else_refused, else_body_refused)

-- the body of another statement
stmt_same : {c d : Counts} {before after : List Placed} → Within c (part stmt ∷ []) before d after → d ≡ c
stmt_same (begins chosen w nothing) = refl

pub reads_in_braces : {c d : Counts} {before after : List Placed} → Next (terminal.Symbol Symbol.OpenBrace) before → Within c (part stmt ∷ []) before d after → Within c (part body ∷ []) before d after
reads_in_braces {c = c} {d = d} {before = before} {after = after} n w =
    let inner : Within (inside body (next_of before) c) (part stmt ∷ []) before d after = rw (next_comes Symbol.OpenBrace before n) w in
    rw (stmt_same w) (read_part c d body _ before after refl inner)

pub braces_refused : (c : Counts) (before : List Placed) (end : Place) (stop : Stop) → Next (terminal.Symbol Symbol.OpenBrace) before → Refused c (part stmt ∷ []) before end stop →
    Refused c (part body ∷ []) before end stop
braces_refused c before end stop n r =
    let inner : Refused (inside body (next_of before) c) (part stmt ∷ []) before end stop = rw (next_comes Symbol.OpenBrace before n) r in
    refused_part c body _ before end stop refl inner

pub reads_deeper : {level joined new_level new_joined : ℕ} {before after : List Placed} → (Next (terminal.Symbol Symbol.OpenBrace) before → ⊥) →
    Within (record { level = level + 1; joined = joined }) (part stmt ∷ []) before (record { level = new_level; joined = new_joined }) after →
    Within (record { level = level; joined = joined }) (part body ∷ []) before (record { level = new_level - 1; joined = new_joined }) after
reads_deeper {level} {joined} {new_level} {new_joined} {before} {after} none w =
    let c : Counts = record { level = level; joined = joined } in
    let d : Counts = record { level = new_level; joined = new_joined } in
    let same : d ≡ deeper c = stmt_same w in
    let at : new_level - 1 ≡ level = let one_more : new_level ≡ level + 1 = ap (λ (k : Counts). k.level) same in omega arith in
    let rest : new_joined ≡ joined = ap (λ (k : Counts). k.joined) same in
    let inner : Within (inside body (next_of before) c) (part stmt ∷ []) before d after = rw (symbol_comes_not Symbol.OpenBrace before none) w in
    rw (at, rest) (read_part c d body _ before after refl inner)

pub deeper_refused : (level joined : ℕ) (before : List Placed) (end : Place) (stop : Stop) → (Next (terminal.Symbol Symbol.OpenBrace) before → ⊥) →
    Refused (record { level = level + 1; joined = joined }) (part stmt ∷ []) before end stop → Refused (record { level = level; joined = joined }) (part body ∷ []) before end stop
deeper_refused level joined before end stop none r =
    let c : Counts = record { level = level; joined = joined } in
    let inner : Refused (inside body (next_of before) c) (part stmt ∷ []) before end stop = rw (symbol_comes_not Symbol.OpenBrace before none) r in
    refused_part c body _ before end stop refl inner

pub ruleset of_body = (reads_in_braces, braces_refused, reads_deeper, deeper_refused)

-- what is left of a list of statements follows what was read of it
pub record Onward (old new : Cursor) : Type 0 where
  pub reads : (e : Counts) (after : List Placed) → Within (counts new) (part stmts ∷ []) new.rest.now e after → Within (counts old) (part stmts ∷ []) old.rest.now e after
  pub stops : (k : Kind) (here : List Placed) → Stops (counts new) (part stmts ∷ []) new.rest.now k here → Stops (counts old) (part stmts ∷ []) old.rest.now k here

pub onward_here : (here : Cursor) → Onward here here
onward_here here = record { reads = λ e after w. w; stops = λ k at s. s }

goes_on : (here : List Placed) → (Next (terminal.Symbol Symbol.CloseBrace) here → ⊥) → choose stmts (next_of here) ≡ Some (part stmt ∷ part stmts ∷ [])
goes_on here none = ap (λ b. Some (cond b [] (part stmt ∷ part stmts ∷ []))) (symbol_comes_not Symbol.CloseBrace here none)

pub onward_more : (old now new : Cursor) → Onward old now → (Next (terminal.Symbol Symbol.CloseBrace) now.rest.now → ⊥) →
    Within (counts now) (part stmt ∷ []) now.rest.now (counts new) new.rest.now → Onward old new
onward_more old now new o none w = record {
  reads = λ e after v. o.reads e after (begins (goes_on now.rest.now none) (seq w v) nothing);
  stops = λ k here s. o.stops k here (in_part (goes_on now.rest.now none) (stops_after w s));
}

pub reads_onward : (old now : Cursor) → Onward old now → Next (terminal.Symbol Symbol.CloseBrace) now.rest.now → Within (counts old) (part stmts ∷ []) old.rest.now (counts now) now.rest.now
reads_onward old now o n =
    let ends : choose stmts (next_of now.rest.now) ≡ Some [] = ap (λ b. Some (cond b [] (part stmt ∷ part stmts ∷ []))) (next_comes Symbol.CloseBrace now.rest.now n) in
    o.reads (counts now) now.rest.now (begins ends nothing nothing)

pub onward_refused : (old now : Cursor) (stop : Stop) → Onward old now → (Next (terminal.Symbol Symbol.CloseBrace) now.rest.now → ⊥) → now.end ≡ old.end →
    Refused (counts now) (part stmt ∷ []) now.rest.now now.end stop → Refused (counts old) (part stmts ∷ []) old.rest.now old.end stop
onward_refused old now (Stop.Refused refusal) o none end r =
    record { here = r.here; stops = o.stops _ _ (in_part (goes_on now.rest.now none) (stops_first (part stmts ∷ []) r.stops)); place = rw (← end) r.place }
onward_refused old now Stop.NoMemory o none end r = r

pub ruleset of_stmts = (onward_here, onward_more, reads_onward, onward_refused)

-- a statement counts anew
pub stmt_refused : (level joined : ℕ) (before : List Placed) (end : Place) (stop : Stop) → Refused (record { level = level; joined = 0 }) (stmt_begins before) before end stop →
    Refused (record { level = level; joined = joined }) (part stmt ∷ []) before end stop
stmt_refused level joined before end stop r = refused_part (record { level = level; joined = joined }) stmt _ before end stop refl r

pub reads_anew : {A : Type 0} (r : Result A Stop) (joined : ℕ) (old new : Cursor) → OnOk r (Reads old new) → old.joined ≡ 0 → OnOk r (Completed (stmt_begins old.rest.now) old new) →
    OnOk r (Within (record { level = old.level; joined = joined }) (part stmt ∷ []) old.rest.now (record { level = new.level; joined = joined }) new.rest.now)
reads_anew (Ok s) joined old new moves anew done =
    let start : counts old ≡ record { level = old.level; joined = 0 } = rw anew refl in
    rw moves.level (read_part (record { level = old.level; joined = joined }) done.last stmt _ old.rest.now new.rest.now refl (rw start at done.reads))
reads_anew (Err stop) joined old new moves anew done = tt

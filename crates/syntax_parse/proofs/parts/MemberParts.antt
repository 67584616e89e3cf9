-- The parts of the grammar's Member productions, by what they begin with.
use Rattle.std.proofs.Common.{◌≡◌, ◌∙◌, ℕ, ap, inl, inr, List, [], ◌∷◌, Bool, true, false, cond, ◌||◌, ◌&&◌, sym, Some, refl}
use Rattle.lang_base.specs.declared.place.Place.{Place}
use Rattle.lang_base.specs.declared.refusal.Kind.{Kind}
use Rattle.lang_base.specs.declared.refusal.Stop.{Stop}
use Rattle.syntax_tokens.specs.declared.token.Symbol.{Symbol}
use Rattle.syntax_tokens.specs.declared.token.Keyword.{Keyword}
use Rattle.syntax_tokens.specs.declared.terminal.Placed.{Placed}
use Rattle.syntax_tokens.specs.declared.terminal.Terminal.{Terminal}
use Rattle.syntax_tokens.specs.declared.terminal.Terminal.TheVariants as terminal
use Rattle.syntax_exprs.specs.declared.cursor.Cursor.{Cursor}
use Rattle.syntax_grammar.specs.Taking.{Next, NoNext, TakesIf}
use Rattle.syntax_grammar.specs.Classes.{BeginsEffects}
use Rattle.syntax_parse.specs.Members.{member_begins, kind_comes, BeginsAnswering, constructor_comes, BeginsTyped, type_begins, IsItemsPart, reads, writes}
use Rattle.syntax_exprs.specs.Targets.{rest_of}
use Rattle.syntax_exprs.specs.Progress.{ReadsIf}
use Rattle.syntax_grammar.specs.Expecting.{Expected, Part, one, part, choose, next_of, next_is, member_parts}
use Rattle.syntax_grammar.specs.Expecting.Part.{member, after_member_name, field_or_method, in_if, result, method_rest, formals, formal_list, formal, more_formals, summary, reads_if, writes_if, items, item, more_items, atomic_if, block, path, type, kind, names, params_if, args_if, suffixes}
use Rattle.syntax_grammar.specs.Words.{is_atomic, is_close_paren, is_comma, is_in, is_name, is_open_paren, is_pure, is_region, is_semicolon, is_void, word}
use Rattle.syntax_grammar.specs.Limits.{Counts, Within, begins, nothing, passes, anew, Stops, no_terminal, too_many, in_part, after_part, after_terminal}
use Rattle.syntax_exprs.specs.Counted.{counts, Reading, StopsAt}
use Rattle.syntax_exprs.proofs.Coming.{comes_next, no_name_comes, next_comes, symbol_comes_not, keyword_comes, keyword_comes_not}
use Rattle.syntax_grammar.proofs.Tested.{word_or_not}
use Rattle.syntax_exprs.proofs.InOrder.{Onward, IsMore, next_read, listed_at_comma, listed_at_item, listed_end, listed_on, stops_in_list}
use Rattle.syntax_exprs.proofs.InTurn.{refused_later, refused_second, onward_refused}
use Rattle.syntax_exprs.proofs.Composed.{Refused, seq, stops_after, refused_first, read_part, refused_part, on_refused}

pub formals_reads : {c d e f : Counts} {a b g h : List Placed} →
    Within c (one is_open_paren ∷ []) a d b → Within d (part formal_list ∷ []) b e g → Within e (one is_close_paren ∷ []) g f h → Within c (part formals ∷ []) a f h
formals_reads opened list closed = read_part _ _ formals _ _ _ refl (seq opened (seq list closed))

pub formals_refused : (c : Counts) (before : List Placed) (end : Place) (stop : Stop) →
    Refused c (one is_open_paren ∷ part formal_list ∷ one is_close_paren ∷ []) before end stop → Refused c (part formals ∷ []) before end stop
formals_refused c before end stop r = refused_part c formals _ before end stop refl r

pub formal_reads : {c d e : Counts} {a b g : List Placed} → Within c (part type ∷ []) a d b → Within d (one is_name ∷ []) b e g → Within c (part formal ∷ []) a e g
formal_reads ty named = read_part _ _ formal _ _ _ refl (seq ty named)

pub formal_refused : (c : Counts) (before : List Placed) (end : Place) (stop : Stop) → Refused c (part type ∷ one is_name ∷ []) before end stop → Refused c (part formal ∷ []) before end stop
formal_refused c before end stop r = refused_part c formal _ before end stop refl r

pub method_rest_reads : {c d e f : Counts} {a b g h : List Placed} →
    Within c (part formals ∷ []) a d b → Within d (part summary ∷ []) b e g → Within e (part block ∷ []) g f h → Within c (part method_rest ∷ []) a f h
method_rest_reads f s b = read_part _ _ method_rest _ _ _ refl (seq f (seq s b))

pub method_rest_refused : (c : Counts) (before : List Placed) (end : Place) (stop : Stop) →
    Refused c (part formals ∷ part summary ∷ part block ∷ []) before end stop → Refused c (part method_rest ∷ []) before end stop
method_rest_refused c before end stop r = refused_part c method_rest _ before end stop refl r

-- the formals of a method
pub formal_list_none : {c : Counts} {a : List Placed} → Next (terminal.Symbol Symbol.CloseParen) a → Within c (part formal_list ∷ []) a c a
formal_list_none {c} {a} n = read_part c c formal_list [] a a (rw (next_comes Symbol.CloseParen a n) refl) nothing

formal_list_comes : (a : List Placed) → NoNext (terminal.Symbol Symbol.CloseParen) a → choose formal_list (next_of a) ≡ Some (part formal ∷ part more_formals ∷ [])
formal_list_comes a none = rw (symbol_comes_not Symbol.CloseParen a none) refl

pub formal_list_refused : (c : Counts) (before : List Placed) (end : Place) (stop : Stop) →
    NoNext (terminal.Symbol Symbol.CloseParen) before → Refused c (part formal ∷ []) before end stop → Refused c (part formal_list ∷ []) before end stop
formal_list_refused c before end stop none r = refused_part c formal_list _ before end stop (formal_list_comes before none) (refused_first c _ (part more_formals ∷ []) before end stop r)

pub formal_list_begun : {c d : Counts} {a b : List Placed} →
    NoNext (terminal.Symbol Symbol.CloseParen) a → Within c (part formal ∷ []) a d b → Onward c (part formal_list ∷ []) a d (part more_formals ∷ []) b
formal_list_begun {a = a} none w = record {
  reads = λ e after v. read_part _ _ formal_list _ _ _ (formal_list_comes a none) (seq w v);
  stops = λ k here s. in_part (formal_list_comes a none) (stops_after w s);
}

more_formals_listed : IsMore more_formals (part formal)
more_formals_listed = record { chooses = λ next. refl; enters = λ next c. refl; leaves = λ c d. refl }

pub more_formals_round : {c d e f : Counts} {xs : List Expected} {a b g h : List Placed} → Onward c xs a d (part more_formals ∷ []) b →
    Within d (one is_comma ∷ []) b e g → Within e (part formal ∷ []) g f h → Onward c xs a f (part more_formals ∷ []) h
more_formals_round o comma w = listed_on more_formals_listed o comma w

pub more_formals_end : {c d : Counts} {xs : List Expected} {a b : List Placed} → Onward c xs a d (part more_formals ∷ []) b → NoNext (terminal.Symbol Symbol.Comma) b → Within c xs a d b
more_formals_end o none = listed_end more_formals_listed o none refl refl

pub more_formals_lost : {c d : Counts} {xs : List Expected} {a b : List Placed} {end later : Place} (stop : Stop) → Onward c xs a d (part more_formals ∷ []) b →
    Next (terminal.Symbol Symbol.Comma) b → later ≡ end → Refused d (one is_comma ∷ []) b later stop → Refused c xs a end stop
more_formals_lost stop o n same r = listed_at_comma _ _ _ _ _ _ _ stop _ _ more_formals_listed o same n r

pub more_formals_refused : {c d e : Counts} {xs : List Expected} {a b g : List Placed} {end end_now end_then : Place} (stop : Stop) → Onward c xs a d (part more_formals ∷ []) b →
    Within d (one is_comma ∷ []) b e g → end_now ≡ end → end_then ≡ end_now → Refused e (part formal ∷ []) g end_then stop → Refused c xs a end stop
more_formals_refused stop o comma is then r = listed_at_item _ _ _ _ _ _ _ _ _ _ stop _ _ more_formals_listed o is comma then r

-- the regions that a summary names
pub items_refused : (c : Counts) (before : List Placed) (end : Place) (stop : Stop) → Refused c (part item ∷ []) before end stop → Refused c (part items ∷ []) before end stop
items_refused c before end stop r = refused_part c items _ before end stop refl (refused_first c _ (part more_items ∷ []) before end stop r)

pub items_begun : {c d : Counts} {a b : List Placed} → Within c (part item ∷ []) a d b → Onward c (part items ∷ []) a d (part more_items ∷ []) b
items_begun w = record { reads = λ e after v. read_part _ _ items _ _ _ refl (seq w v); stops = λ k here s. in_part refl (stops_after w s) }

more_items_listed : IsMore more_items (part item)
more_items_listed = record { chooses = λ next. refl; enters = λ next c. refl; leaves = λ c d. refl }

pub more_items_round : {c d e f : Counts} {xs : List Expected} {a b g h : List Placed} → Onward c xs a d (part more_items ∷ []) b →
    Within d (one is_comma ∷ []) b e g → Within e (part item ∷ []) g f h → Onward c xs a f (part more_items ∷ []) h
more_items_round o comma w = listed_on more_items_listed o comma w

pub more_items_end : {c d : Counts} {xs : List Expected} {a b : List Placed} → Onward c xs a d (part more_items ∷ []) b → NoNext (terminal.Symbol Symbol.Comma) b → Within c xs a d b
more_items_end o none = listed_end more_items_listed o none refl refl

pub more_items_lost : {c d : Counts} {xs : List Expected} {a b : List Placed} {end later : Place} (stop : Stop) → Onward c xs a d (part more_items ∷ []) b →
    Next (terminal.Symbol Symbol.Comma) b → later ≡ end → Refused d (one is_comma ∷ []) b later stop → Refused c xs a end stop
more_items_lost stop o n same r = listed_at_comma _ _ _ _ _ _ _ stop _ _ more_items_listed o same n r

pub more_items_refused : {c d e : Counts} {xs : List Expected} {a b g : List Placed} {end end_now end_then : Place} (stop : Stop) → Onward c xs a d (part more_items ∷ []) b →
    Within d (one is_comma ∷ []) b e g → end_now ≡ end → end_then ≡ end_now → Refused e (part item ∷ []) g end_then stop → Refused c xs a end stop
more_items_refused stop o comma is then r = listed_at_item _ _ _ _ _ _ _ _ _ _ stop _ _ more_items_listed o is comma then r

-- the result of a method
pub result_void_reads : {c d : Counts} {a b : List Placed} → Within c (one is_void ∷ []) a d b → Within c (part result ∷ []) a d b
result_void_reads w = read_part _ _ result _ _ _ (rw (next_read w) refl) w

pub result_void_refused : (c : Counts) (before : List Placed) (end : Place) (stop : Stop) →
    Next (terminal.Keyword Keyword.Void) before → Refused c (one is_void ∷ []) before end stop → Refused c (part result ∷ []) before end stop
result_void_refused c before end stop n r = refused_part c result _ before end stop (rw (keyword_comes Keyword.Void before n) refl) r

pub result_value_reads : {c d : Counts} {a b : List Placed} → NoNext (terminal.Keyword Keyword.Void) a → Within c (part type ∷ []) a d b → Within c (part result ∷ []) a d b
result_value_reads {a = a} none w = read_part _ _ result _ _ _ (rw (keyword_comes_not Keyword.Void a none) refl) w

pub result_value_refused : (c : Counts) (before : List Placed) (end : Place) (stop : Stop) →
    NoNext (terminal.Keyword Keyword.Void) before → Refused c (part type ∷ []) before end stop → Refused c (part result ∷ []) before end stop
result_value_refused c before end stop none r = refused_part c result _ before end stop (rw (keyword_comes_not Keyword.Void before none) refl) r

-- the region of a field
pub in_if_none : {c : Counts} {a : List Placed} → NoNext (terminal.Keyword Keyword.In) a → Within c (part in_if ∷ []) a c a
in_if_none {c} {a} none = read_part c c in_if [] a a (rw (keyword_comes_not Keyword.In a none) refl) nothing

pub in_if_reads : {c d e : Counts} {a b g : List Placed} → Within c (one is_in ∷ []) a d b → Within d (part path ∷ []) b e g → Within c (part in_if ∷ []) a e g
in_if_reads word w = read_part _ _ in_if _ _ _ (rw (next_read word) refl) (seq word w)

pub in_if_lost : (c : Counts) (before : List Placed) (end : Place) (stop : Stop) →
    Next (terminal.Keyword Keyword.In) before → Refused c (one is_in ∷ []) before end stop → Refused c (part in_if ∷ []) before end stop
in_if_lost c before end stop n r = refused_part c in_if _ before end stop (rw (keyword_comes Keyword.In before n) refl) (refused_first c _ (part path ∷ []) before end stop r)

pub in_if_refused : {c d : Counts} {a b : List Placed} {end end_now : Place} (stop : Stop) →
    Within c (one is_in ∷ []) a d b → end_now ≡ end → Refused d (part path ∷ []) b end_now stop → Refused c (part in_if ∷ []) a end stop
in_if_refused {c} {a = a} stop word is r = refused_part c in_if _ a _ stop (rw (next_read word) refl) (refused_second _ _ [] stop word is r)

-- a keyword that may come leaves the end of the text where it is
pub end_if : (found : Bool) (old new : Cursor) → ReadsIf found old new → new.end ≡ old.end
end_if true old new moves = moves.end
end_if false old new same = ap (λ c. c.end) same

-- one region of them
atomic_reads : (found : Bool) (old new : Cursor) → ReadsIf found old new → TakesIf (terminal.Keyword Keyword.Atomic) found old.rest.now new.rest.now →
    (found ≡ true → Reading (one is_atomic ∷ []) old new) → Reading (part atomic_if ∷ []) old new
atomic_reads true old new moves takes reading = let w = reading refl in read_part _ _ atomic_if _ _ _ (rw (next_read w) refl) w
atomic_reads false old new same takes reading =
    rw same (read_part (counts old) (counts old) atomic_if [] old.rest.now old.rest.now (rw (keyword_comes_not Keyword.Atomic old.rest.now takes.0) refl) nothing)

pub item_reads : (found : Bool) (old mid new : Cursor) → ReadsIf found old mid → TakesIf (terminal.Keyword Keyword.Atomic) found old.rest.now mid.rest.now →
    (found ≡ true → Reading (one is_atomic ∷ []) old mid) → Reading (part path ∷ []) mid new → Reading (part item ∷ []) old new
item_reads found old mid new moves takes reading w = read_part _ _ item _ _ _ refl (seq (atomic_reads found old mid moves takes reading) w)

pub item_lost : (c : Counts) (before : List Placed) (end : Place) (stop : Stop) →
    Next (terminal.Keyword Keyword.Atomic) before → Refused c (one is_atomic ∷ []) before end stop → Refused c (part item ∷ []) before end stop
item_lost c before end stop n r =
    refused_part c item _ before end stop refl
    (refused_first c _ (part path ∷ []) before end stop (refused_part c atomic_if _ before end stop (rw (keyword_comes Keyword.Atomic before n) refl) r))

pub item_refused : (found : Bool) (old mid : Cursor) (stop : Stop) → ReadsIf found old mid → TakesIf (terminal.Keyword Keyword.Atomic) found old.rest.now mid.rest.now →
    (found ≡ true → Reading (one is_atomic ∷ []) old mid) → StopsAt (part path ∷ []) mid stop → StopsAt (part item ∷ []) old stop
item_refused found old mid stop moves takes reading r =
    refused_part _ item _ _ _ stop refl (refused_second _ _ [] stop (atomic_reads found old mid moves takes reading) (end_if found old mid moves) r)

-- a keyword and regions, or neither
pub items_if_none : {keyword : Keyword} {n : Part} {c : Counts} {a : List Placed} → IsItemsPart keyword n → NoNext (terminal.Keyword keyword) a → Within c (part n ∷ []) a c a
items_if_none {c = c} {a = a} reads none = read_part c c reads_if [] a a (rw (keyword_comes_not Keyword.Reads a none) refl) nothing
items_if_none {c = c} {a = a} writes none = read_part c c writes_if [] a a (rw (keyword_comes_not Keyword.Writes a none) refl) nothing

pub items_if_reads : {keyword : Keyword} {n : Part} {c d e : Counts} {a b g : List Placed} → IsItemsPart keyword n →
    Within c (one (word keyword) ∷ []) a d b → Within d (part items ∷ []) b e g → Within c (part n ∷ []) a e g
items_if_reads reads v w = read_part _ _ reads_if _ _ _ (rw (next_read v) refl) (seq v w)
items_if_reads writes v w = read_part _ _ writes_if _ _ _ (rw (next_read v) refl) (seq v w)

pub items_if_lost : {keyword : Keyword} {n : Part} (c : Counts) (before : List Placed) (end : Place) (stop : Stop) → IsItemsPart keyword n →
    Next (terminal.Keyword keyword) before → Refused c (one (word keyword) ∷ []) before end stop → Refused c (part n ∷ []) before end stop
items_if_lost c before end stop reads n r = refused_part c reads_if _ before end stop (rw (keyword_comes Keyword.Reads before n) refl) (refused_first c _ (part items ∷ []) before end stop r)
items_if_lost c before end stop writes n r = refused_part c writes_if _ before end stop (rw (keyword_comes Keyword.Writes before n) refl) (refused_first c _ (part items ∷ []) before end stop r)

pub items_if_refused : {keyword : Keyword} {n : Part} {c d : Counts} {a b : List Placed} {end end_now : Place} (stop : Stop) → IsItemsPart keyword n →
    Within c (one (word keyword) ∷ []) a d b → end_now ≡ end → Refused d (part items ∷ []) b end_now stop → Refused c (part n ∷ []) a end stop
items_if_refused {c = c} {a = a} stop reads v is r = refused_part c reads_if _ a _ stop (rw (next_read v) refl) (refused_second _ _ [] stop v is r)
items_if_refused {c = c} {a = a} stop writes v is r = refused_part c writes_if _ a _ stop (rw (next_read v) refl) (refused_second _ _ [] stop v is r)

-- the summary of a method
effects_come : (a : List Placed) → BeginsEffects a → choose summary (next_of a) ≡ Some (part reads_if ∷ part writes_if ∷ [])
effects_come a (inl n) = rw (n.takes.takes.first) refl
effects_come a (inr n) = rw (n.takes.takes.first) refl

no_effects : (a : List Placed) → (BeginsEffects a → ⊥) → choose summary (next_of a) ≡ Some (cond (next_is is_pure (next_of a)) (one is_pure ∷ []) [])
no_effects a none = rw (keyword_comes_not Keyword.Reads a (λ n. none (inl n)), keyword_comes_not Keyword.Writes a (λ n. none (inr n))) refl

pub summary_effects_reads : {c d e : Counts} {a b g : List Placed} → BeginsEffects a → Within c (part reads_if ∷ []) a d b → Within d (part writes_if ∷ []) b e g → Within c (part summary ∷ []) a e g
summary_effects_reads {a = a} n v w = read_part _ _ summary _ _ _ (effects_come a n) (seq v w)

pub summary_reads_refused : (c : Counts) (before : List Placed) (end : Place) (stop : Stop) → BeginsEffects before →
    Refused c (part reads_if ∷ []) before end stop → Refused c (part summary ∷ []) before end stop
summary_reads_refused c before end stop n r = refused_part c summary _ before end stop (effects_come before n) (refused_first c _ (part writes_if ∷ []) before end stop r)

pub summary_writes_refused : {c d : Counts} {a b : List Placed} {end end_now : Place} (stop : Stop) → BeginsEffects a →
    Within c (part reads_if ∷ []) a d b → end_now ≡ end → Refused d (part writes_if ∷ []) b end_now stop → Refused c (part summary ∷ []) a end stop
summary_writes_refused {c = c} {a = a} stop n v is r = refused_part c summary _ a _ stop (effects_come a n) (refused_second _ _ [] stop v is r)

pub summary_pure_reads : {c d : Counts} {a b : List Placed} → (BeginsEffects a → ⊥) → Within c (one is_pure ∷ []) a d b → Within c (part summary ∷ []) a d b
summary_pure_reads {a = a} none w = read_part _ _ summary _ _ _ (no_effects a none ∙ rw (next_read w) refl) w

pub summary_pure_refused : (c : Counts) (before : List Placed) (end : Place) (stop : Stop) → (BeginsEffects before → ⊥) → Next (terminal.Keyword Keyword.Pure) before →
    Refused c (one is_pure ∷ []) before end stop → Refused c (part summary ∷ []) before end stop
summary_pure_refused c before end stop none n r = refused_part c summary _ before end stop (no_effects before none ∙ rw (keyword_comes Keyword.Pure before n) refl) r

pub summary_none : {c : Counts} {a : List Placed} → (BeginsEffects a → ⊥) → NoNext (terminal.Keyword Keyword.Pure) a → Within c (part summary ∷ []) a c a
summary_none {c} {a} none not = read_part c c summary [] a a (no_effects a none ∙ rw (keyword_comes_not Keyword.Pure a not) refl) nothing

-- what follows the type and the name of a member
pub method_comes : {c d : Counts} {a b : List Placed} → Next (terminal.Symbol Symbol.OpenParen) a → Within c (part method_rest ∷ []) a d b → Within c (part field_or_method ∷ []) a d b
method_comes {a = a} n w = read_part _ _ field_or_method _ _ _ (rw (next_comes Symbol.OpenParen a n) refl) w

pub method_refused : (c : Counts) (before : List Placed) (end : Place) (stop : Stop) → Next (terminal.Symbol Symbol.OpenParen) before →
    Refused c (part method_rest ∷ []) before end stop → Refused c (part field_or_method ∷ []) before end stop
method_refused c before end stop n r = refused_part c field_or_method _ before end stop (rw (next_comes Symbol.OpenParen before n) refl) r

pub field_comes : {c d : Counts} {a b : List Placed} → NoNext (terminal.Symbol Symbol.OpenParen) a → Within c (part in_if ∷ one is_semicolon ∷ []) a d b → Within c (part field_or_method ∷ []) a d b
field_comes {a = a} none w = read_part _ _ field_or_method _ _ _ (rw (symbol_comes_not Symbol.OpenParen a none) refl) w

pub field_refused : (c : Counts) (before : List Placed) (end : Place) (stop : Stop) → NoNext (terminal.Symbol Symbol.OpenParen) before →
    Refused c (part in_if ∷ one is_semicolon ∷ []) before end stop → Refused c (part field_or_method ∷ []) before end stop
field_refused c before end stop none r = refused_part c field_or_method _ before end stop (rw (symbol_comes_not Symbol.OpenParen before none) refl) r

-- a member of each kind
opposed : {b : Bool} {A : Type 0} → b ≡ true → b ≡ false → A
opposed is not = absurd (let e : true ≡ false = cc in cc)

kind_parts : (t : Terminal) → (is_atomic t || is_region t) ≡ true → member_parts t ≡ part kind ∷ part names ∷ one is_semicolon ∷ []
kind_parts t comes = elim (word_or_not Keyword.Atomic t) [
  | inl is ↦ rw is refl
  | inr neither ↦ elim (word_or_not Keyword.Region t) [ inl is ↦ rw is refl | inr not ↦ opposed comes (rw (neither, not) refl) ]
]

kind_begins : (a : List Placed) → kind_comes a ≡ true → member_begins a ≡ part kind ∷ part names ∷ one is_semicolon ∷ []
kind_begins [] comes = opposed comes refl
kind_begins (next ∷ after) comes = kind_parts next.terminal comes

pub regions_comes : {c d : Counts} {a b : List Placed} → kind_comes a ≡ true → Within c (part kind ∷ part names ∷ one is_semicolon ∷ []) a d b → Within c (member_begins a) a d b
regions_comes {a = a} comes w = rw (kind_begins a comes) w

pub regions_refused : (c : Counts) (before : List Placed) (end : Place) (stop : Stop) → kind_comes before ≡ true →
    Refused c (part kind ∷ part names ∷ one is_semicolon ∷ []) before end stop → Refused c (member_begins before) before end stop
regions_refused c before end stop comes r = rw (kind_begins before comes) r

answering_begins : (a : List Placed) → BeginsAnswering a → member_begins a ≡ part params_if ∷ part result ∷ one is_name ∷ part method_rest ∷ []
answering_begins a (inl n) = rw (n.takes.takes.first) refl
answering_begins a (inr n) = rw (n.takes.takes.first) refl

pub answering_comes : {c d : Counts} {a b : List Placed} → BeginsAnswering a → Within c (part params_if ∷ part result ∷ one is_name ∷ part method_rest ∷ []) a d b → Within c (member_begins a) a d b
answering_comes {a = a} n w = rw (answering_begins a n) w

pub answering_refused : (c : Counts) (before : List Placed) (end : Place) (stop : Stop) → BeginsAnswering before →
    Refused c (part params_if ∷ part result ∷ one is_name ∷ part method_rest ∷ []) before end stop → Refused c (member_begins before) before end stop
answering_refused c before end stop n r = rw (answering_begins before n) r

-- region parameters and a result, and then a method
pub answering_reads : {c d e f : Counts} {a b g h : List Placed} → Within c (part params_if ∷ []) a d b → Within d (part result ∷ []) b e g →
    Within e (one is_name ∷ part method_rest ∷ []) g f h → Within c (part params_if ∷ part result ∷ one is_name ∷ part method_rest ∷ []) a f h
answering_reads params answer w = seq params (seq answer w)

pub answering_method_refused : {c d e : Counts} {a b g : List Placed} {end end_now end_then : Place} (stop : Stop) → Within c (part params_if ∷ []) a d b → end_now ≡ end →
    Within d (part result ∷ []) b e g → end_then ≡ end_now → Refused e (one is_name ∷ part method_rest ∷ []) g end_then stop →
    Refused c (part params_if ∷ part result ∷ one is_name ∷ part method_rest ∷ []) a end stop
answering_method_refused stop params is answer then r = refused_later _ _ stop params is (refused_later _ _ stop answer then r)

-- whether a constructor comes
pub constructor_here : {n : ℕ} (a : List Placed) → Next (terminal.Name n) a → Next (terminal.Symbol Symbol.OpenParen) (rest_of a) → constructor_comes a ≡ true
constructor_here {n} a name opens =
    let named : next_is is_name (next_of a) ≡ true = rw (name.takes.takes.first) refl in
    let opened : next_is is_open_paren (next_of (rest_of a)) ≡ true = next_comes Symbol.OpenParen (rest_of a) opens in
    rw (named, opened) refl

pub constructor_unopened : {n : ℕ} (a : List Placed) → Next (terminal.Name n) a → NoNext (terminal.Symbol Symbol.OpenParen) (rest_of a) → constructor_comes a ≡ false
constructor_unopened {n} a name none =
    let named : next_is is_name (next_of a) ≡ true = rw (name.takes.takes.first) refl in
    let unopened : next_is is_open_paren (next_of (rest_of a)) ≡ false = symbol_comes_not Symbol.OpenParen (rest_of a) none in
    rw (named, unopened) refl

pub constructor_unnamed : (a : List Placed) → ((n : ℕ) → Next (terminal.Name n) a → ⊥) → constructor_comes a ≡ false
constructor_unnamed a none = let unnamed : next_is is_name (next_of a) ≡ false = no_name_comes a none in rw unnamed refl

named_parts : (t : Terminal) → is_name t ≡ true → member_parts t ≡ one is_name ∷ part after_member_name ∷ []
named_parts (terminal.Name n) is = refl
named_parts (terminal.Int n) is = opposed is refl
named_parts (terminal.Text text) is = opposed is refl
named_parts (terminal.Symbol s) is = opposed is refl
named_parts (terminal.Keyword k) is = opposed is refl

named_opens : (named opens : Bool) → named ≡ true → (named && opens) ≡ true → opens ≡ true
named_opens true opens is both = both
named_opens false opens is both = opposed is refl

named_unopened : (named opens : Bool) → named ≡ true → (named && opens) ≡ false → opens ≡ false
named_unopened true opens is not = not
named_unopened false opens is not = opposed is refl

first_named : (named opens : Bool) → (named && opens) ≡ true → named ≡ true
first_named true opens both = refl
first_named false opens both = both

method_chosen : (rest : List Placed) → next_is is_open_paren (next_of rest) ≡ true → choose after_member_name (next_of rest) ≡ Some (part method_rest ∷ [])
method_chosen rest opens = rw opens refl

type_chosen : (rest : List Placed) → next_is is_open_paren (next_of rest) ≡ false →
    choose after_member_name (next_of rest) ≡ Some (part args_if ∷ part suffixes ∷ one is_name ∷ part field_or_method ∷ [])
type_chosen rest none = rw none refl

pub constructor_reads : {c d : Counts} {a b : List Placed} → constructor_comes a ≡ true → Within c (one is_name ∷ part method_rest ∷ []) a d b → Within c (member_begins a) a d b
constructor_reads both (passes {next = next} {between = between} named fits w) =
    rw (named_parts next.terminal named) (passes named fits (read_part _ _ after_member_name _ _ _ (method_chosen between (named_opens _ _ named both)) w))

constructor_stops : {c : Counts} {next : Placed} {rest here : List Placed} {k : Kind} → choose after_member_name (next_of rest) ≡ Some (part method_rest ∷ []) →
    Stops c (one is_name ∷ part method_rest ∷ []) (next ∷ rest) k here → Stops c (one is_name ∷ part after_member_name ∷ []) (next ∷ rest) k here
constructor_stops chosen (no_terminal none) = no_terminal none
constructor_stops chosen (too_many named over) = too_many named over
constructor_stops chosen (after_terminal named fits s) = after_terminal named fits (in_part chosen s)

pub constructor_refused : (c : Counts) (before : List Placed) (end : Place) (stop : Stop) → constructor_comes before ≡ true →
    Refused c (one is_name ∷ part method_rest ∷ []) before end stop → Refused c (member_begins before) before end stop
constructor_refused c [] end stop both r = opposed both refl
constructor_refused c (next ∷ rest) end stop both r =
    let named : is_name next.terminal ≡ true = first_named _ _ both in
    rw (named_parts next.terminal named) (on_refused end stop (λ k here s. constructor_stops (method_chosen rest (named_opens _ _ named both)) s) r)

type_stops : {c : Counts} {next : Placed} {rest here : List Placed} {k : Kind} →
    choose after_member_name (next_of rest) ≡ Some (part args_if ∷ part suffixes ∷ one is_name ∷ part field_or_method ∷ []) →
    Stops c (one is_name ∷ part args_if ∷ part suffixes ∷ []) (next ∷ rest) k here → Stops c (one is_name ∷ part after_member_name ∷ []) (next ∷ rest) k here
type_stops chosen (no_terminal none) = no_terminal none
type_stops chosen (too_many named over) = too_many named over
type_stops chosen (after_terminal named fits s) = after_terminal named fits (in_part chosen (stops_in_list (one is_name ∷ part field_or_method ∷ []) s))

named_begun : {c d : Counts} {next : Placed} {rest b : List Placed} →
    choose after_member_name (next_of rest) ≡ Some (part args_if ∷ part suffixes ∷ one is_name ∷ part field_or_method ∷ []) →
    Within c (one is_name ∷ part args_if ∷ part suffixes ∷ []) (next ∷ rest) d b →
    Onward c (one is_name ∷ part after_member_name ∷ []) (next ∷ rest) d (one is_name ∷ part field_or_method ∷ []) b
named_begun chosen (passes named fits (begins args v (begins suffixed w nothing))) = record {
  reads = λ e after u. passes named fits (read_part _ _ after_member_name _ _ _ chosen (begins args v (begins suffixed w u)));
  stops = λ k here s. after_terminal named fits (in_part chosen (after_part args v (after_part suffixed w s)));
}

type_named : (next : Placed) (rest : List Placed) → is_name next.terminal ≡ true → type_begins (next ∷ rest) ≡ one is_name ∷ part args_if ∷ part suffixes ∷ []
type_named next rest named = rw named refl

type_unnamed : (next : Placed) (rest : List Placed) → is_name next.terminal ≡ false → type_begins (next ∷ rest) ≡ part type ∷ []
type_unnamed next rest unnamed = rw unnamed refl

typed_by : {c d : Counts} {next : Placed} {rest b : List Placed} (named : Bool) → is_name next.terminal ≡ named → BeginsTyped (next ∷ rest) → Within c (type_begins (next ∷ rest)) (next ∷ rest) d b →
    Onward c (member_begins (next ∷ rest)) (next ∷ rest) d (one is_name ∷ part field_or_method ∷ []) b
typed_by {c} {d} {next} {rest} {b} true named t w =
    let v : Within c (one is_name ∷ part args_if ∷ part suffixes ∷ []) (next ∷ rest) d b = rw (sym (type_named next rest named)) w in
    rw (named_parts next.terminal named) (named_begun (type_chosen rest (named_unopened _ _ named t.other)) v)
typed_by {c} {d} {next} {rest} {b} false unnamed t w =
    let v : Within c (part type ∷ []) (next ∷ rest) d b = rw (sym (type_unnamed next rest unnamed)) w in
    rw (t.unnamed unnamed) (record { reads = λ e after u. seq v u; stops = λ k here s. stops_after v s })

typed_refused_by : (c : Counts) (next : Placed) (rest : List Placed) (end : Place) (stop : Stop) (named : Bool) → is_name next.terminal ≡ named → BeginsTyped (next ∷ rest) →
    Refused c (type_begins (next ∷ rest)) (next ∷ rest) end stop → Refused c (member_begins (next ∷ rest)) (next ∷ rest) end stop
typed_refused_by c next rest end stop true named t r =
    let q : Refused c (one is_name ∷ part args_if ∷ part suffixes ∷ []) (next ∷ rest) end stop = rw (sym (type_named next rest named)) r in
    rw (named_parts next.terminal named) (on_refused end stop (λ k here s. type_stops (type_chosen rest (named_unopened _ _ named t.other)) s) q)
typed_refused_by c next rest end stop false unnamed t r =
    let q : Refused c (part type ∷ []) (next ∷ rest) end stop = rw (sym (type_unnamed next rest unnamed)) r in
    rw (t.unnamed unnamed) (refused_first c (part type) (one is_name ∷ part field_or_method ∷ []) (next ∷ rest) end stop q)

-- after the type of a field or a method
pub typed_begun : {c d : Counts} {b : List Placed} (a : List Placed) → BeginsTyped a → Within c (type_begins a) a d b → Onward c (member_begins a) a d (one is_name ∷ part field_or_method ∷ []) b
typed_begun {c} {d} {b} [] t w = record { reads = λ e after u. seq w u; stops = λ k here s. stops_after w s }
typed_begun {c} {d} {b} (next ∷ rest) t w = typed_by (is_name next.terminal) refl t w

pub typed_refused : (c : Counts) (before : List Placed) (end : Place) (stop : Stop) → BeginsTyped before → Refused c (type_begins before) before end stop → Refused c (member_begins before) before end stop
typed_refused c [] end stop t r = refused_first c _ (one is_name ∷ part field_or_method ∷ []) [] end stop r
typed_refused c (next ∷ rest) end stop t r = typed_refused_by c next rest end stop (is_name next.terminal) refl t r

-- how the type is read
pub type_by_name : {n : ℕ} {c d : Counts} {a b : List Placed} → Next (terminal.Name n) a → Within c (one is_name ∷ part args_if ∷ part suffixes ∷ []) a d b → Within c (type_begins a) a d b
type_by_name {a = a} n w = let e : type_begins a ≡ one is_name ∷ part args_if ∷ part suffixes ∷ [] = rw (n.takes.takes.first) refl in rw e w

pub type_by_name_refused : {n : ℕ} (c : Counts) (before : List Placed) (end : Place) (stop : Stop) → Next (terminal.Name n) before →
    Refused c (one is_name ∷ part args_if ∷ part suffixes ∷ []) before end stop → Refused c (type_begins before) before end stop
type_by_name_refused c before end stop n r = let e : type_begins before ≡ one is_name ∷ part args_if ∷ part suffixes ∷ [] = rw (n.takes.takes.first) refl in rw e r

no_name_parts : (a : List Placed) → ((n : ℕ) → Next (terminal.Name n) a → ⊥) → type_begins a ≡ part type ∷ []
no_name_parts a none = let unnamed : next_is is_name (next_of a) ≡ false = no_name_comes a none in rw unnamed refl

pub type_by_itself : {c d : Counts} {a b : List Placed} → ((n : ℕ) → Next (terminal.Name n) a → ⊥) → Within c (part type ∷ []) a d b → Within c (type_begins a) a d b
type_by_itself {a = a} none w = rw (no_name_parts a none) w

pub type_by_itself_refused : (c : Counts) (before : List Placed) (end : Place) (stop : Stop) → ((n : ℕ) → Next (terminal.Name n) before → ⊥) →
    Refused c (part type ∷ []) before end stop → Refused c (type_begins before) before end stop
type_by_itself_refused c before end stop none r = rw (no_name_parts before none) r

pub typed_name_refused : {c d : Counts} {a b : List Placed} {end end_now : Place} (stop : Stop) → BeginsTyped a → Within c (type_begins a) a d b → end_now ≡ end →
    Refused d (one is_name ∷ []) b end_now stop → Refused c (member_begins a) a end stop
typed_name_refused {a = a} stop t w is r = onward_refused stop (typed_begun a t w) is r

-- a type comes where nothing else does
typed_parts : (t : Terminal) → (is_atomic t || is_region t) ≡ false → (t ≡ terminal.Symbol Symbol.Less → ⊥) → (t ≡ terminal.Keyword Keyword.Void → ⊥) → is_name t ≡ false →
    member_parts t ≡ part type ∷ one is_name ∷ part field_or_method ∷ []
typed_parts (terminal.Keyword Keyword.Atomic) kinds less void unnamed = opposed refl kinds
typed_parts (terminal.Keyword Keyword.Region) kinds less void unnamed = opposed refl kinds
typed_parts (terminal.Symbol Symbol.Less) kinds less void unnamed = absurd (less refl)
typed_parts (terminal.Keyword Keyword.Void) kinds less void unnamed = absurd (void refl)
typed_parts (terminal.Name n) kinds less void unnamed = opposed refl unnamed
typed_parts _ kinds less void unnamed = refl

pub typed_comes : (a : List Placed) → kind_comes a ≡ false → (BeginsAnswering a → ⊥) → constructor_comes a ≡ false → BeginsTyped a
typed_comes [] kinds none other = record { other = other; unnamed = λ unnamed. refl }
typed_comes (next ∷ after) kinds none other = record {
  other = other;
  unnamed = λ unnamed. typed_parts next.terminal kinds (λ is. none (inl (comes_next is))) (λ is. none (inr (comes_next is))) unnamed;
}

-- a member counts anew
pub member_reads : {c d : Counts} {level : ℕ} {a b : List Placed} → level ≡ c.level → Within (anew c) (member_begins a) a d b → Within c (part member ∷ []) a (record { level = level; joined = c.joined }) b
member_reads same w = rw same (read_part _ _ member _ _ _ refl w)

pub member_refused : (c : Counts) (before : List Placed) (end : Place) (stop : Stop) → Refused (anew c) (member_begins before) before end stop → Refused c (part member ∷ []) before end stop
member_refused c before end stop r = refused_part c member _ before end stop refl r

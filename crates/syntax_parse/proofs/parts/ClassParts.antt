-- The parts of the grammar's Class productions, by what they begin with.
use Rattle.std.proofs.Common.{◌≡◌, ◌==◌, ap, List, [], ◌∷◌, length, true, false, Some, Result, Ok, Err, OnOk, refl, subst, arith}
use Rattle.lang_base.specs.declared.place.Place.{Place}
use Rattle.lang_base.specs.declared.refusal.Stop.{Stop}
use Rattle.syntax_tokens.specs.declared.token.Symbol.{Symbol}
use Rattle.syntax_tokens.specs.declared.token.Keyword.{Keyword}
use Rattle.syntax_tokens.specs.declared.terminal.Placed.{Placed}
use Rattle.syntax_tokens.specs.declared.terminal.Terminal.TheVariants as terminal
use Rattle.syntax_exprs.specs.declared.cursor.Cursor.{Cursor}
use Rattle.syntax_exprs.specs.Counted.{counts}
use Rattle.syntax_grammar.specs.Refusing.{at_start, IsWithin}
use Rattle.syntax_grammar.specs.Taking.{Next, NoNext}
use Rattle.syntax_grammar.specs.Expecting.{Expected, one, part, choose, next_of}
use Rattle.syntax_grammar.specs.Expecting.Part.{args_if, class, member, member_list, members, more_classes, parent_if, program, params_if}
use Rattle.syntax_grammar.specs.Words.{is_class, is_close_brace, is_extends, is_name, is_open_brace}
use Rattle.syntax_grammar.specs.Limits.{Counts, Within, nothing, in_part}
use Rattle.syntax_exprs.proofs.Coming.{next_comes, symbol_comes_not, keyword_comes, keyword_comes_not}
use Rattle.syntax_exprs.proofs.Composed.{Refused, seq, stops_after, refused_first, read_part, refused_part}
use Rattle.syntax_exprs.proofs.InOrder.{Onward, next_read}
use Rattle.syntax_exprs.proofs.InTurn.{onward_step, onward_refused, refused_second, refused_third}

-- a class
pub class_reads : {c d e f g h : Counts} {a b i j k l : List Placed} → Within c (one is_class ∷ []) a d b → Within d (one is_name ∷ []) b e i →
    Within e (part params_if ∷ []) i f j → Within f (part parent_if ∷ []) j g k → Within g (part members ∷ []) k h l → Within c (part class ∷ []) a h l
class_reads word named params parent all = read_part _ _ class _ _ _ refl (seq word (seq named (seq params (seq parent all))))

pub class_refused : (c : Counts) (before : List Placed) (end : Place) (stop : Stop) →
    Refused c (one is_class ∷ one is_name ∷ part params_if ∷ part parent_if ∷ part members ∷ []) before end stop → Refused c (part class ∷ []) before end stop
class_refused c before end stop r = refused_part c class _ before end stop refl r

-- the class that it extends
pub parent_none : {c : Counts} {a : List Placed} → NoNext (terminal.Keyword Keyword.Extends) a → Within c (part parent_if ∷ []) a c a
parent_none {c} {a} none = read_part c c parent_if [] a a (rw (keyword_comes_not Keyword.Extends a none) refl) nothing

pub parent_reads : {c d e f : Counts} {a b g h : List Placed} → Within c (one is_extends ∷ []) a d b → Within d (one is_name ∷ []) b e g → Within e (part args_if ∷ []) g f h →
    Within c (part parent_if ∷ []) a f h
parent_reads word named args = read_part _ _ parent_if _ _ _ (rw (next_read word) refl) (seq word (seq named args))

pub parent_lost : (c : Counts) (before : List Placed) (end : Place) (stop : Stop) → Next (terminal.Keyword Keyword.Extends) before →
    Refused c (one is_extends ∷ []) before end stop → Refused c (part parent_if ∷ []) before end stop
parent_lost c before end stop n r =
    refused_part c parent_if _ before end stop (rw (keyword_comes Keyword.Extends before n) refl) (refused_first c _ (one is_name ∷ part args_if ∷ []) before end stop r)

pub parent_name_refused : {c d : Counts} {a b : List Placed} {end end_now : Place} (stop : Stop) → Within c (one is_extends ∷ []) a d b → end_now ≡ end →
    Refused d (one is_name ∷ []) b end_now stop → Refused c (part parent_if ∷ []) a end stop
parent_name_refused {c} {a = a} stop word is r = refused_part c parent_if _ a _ stop (rw (next_read word) refl) (refused_second _ _ (part args_if ∷ []) stop word is r)

pub parent_args_refused : {c d e : Counts} {a b g : List Placed} {end end_now end_then : Place} (stop : Stop) → Within c (one is_extends ∷ []) a d b → end_now ≡ end →
    Within d (one is_name ∷ []) b e g → end_then ≡ end_now → Refused e (part args_if ∷ []) g end_then stop → Refused c (part parent_if ∷ []) a end stop
parent_args_refused {c} {a = a} stop word is named then r = refused_part c parent_if _ a _ stop (rw (next_read word) refl) (refused_third _ _ _ [] stop word is named then r)

-- its members
pub members_reads : {c d e f : Counts} {a b g h : List Placed} →
    Within c (one is_open_brace ∷ []) a d b → Within d (part member_list ∷ []) b e g → Within e (one is_close_brace ∷ []) g f h → Within c (part members ∷ []) a f h
members_reads opened list closed = read_part _ _ members _ _ _ refl (seq opened (seq list closed))

pub members_refused : (c : Counts) (before : List Placed) (end : Place) (stop : Stop) →
    Refused c (one is_open_brace ∷ part member_list ∷ one is_close_brace ∷ []) before end stop → Refused c (part members ∷ []) before end stop
members_refused c before end stop r = refused_part c members _ before end stop refl r

-- nothing of a list was read so far
pub onward_start : {c : Counts} {xs : List Expected} {a : List Placed} → Onward c xs a c xs a
onward_start = record { reads = λ e after w. w; stops = λ k here s. s }

member_list_on : {c d : Counts} {xs : List Expected} {a b : List Placed} → Onward c xs a d (part member_list ∷ []) b → NoNext (terminal.Symbol Symbol.CloseBrace) b →
    Onward c xs a d (part member ∷ part member_list ∷ []) b
member_list_on {b = b} o none =
    let chosen : choose member_list (next_of b) ≡ Some (part member ∷ part member_list ∷ []) = rw (symbol_comes_not Symbol.CloseBrace b none) refl in
    record { reads = λ e after v. o.reads e after (read_part _ _ member_list _ _ _ chosen v); stops = λ k here s. o.stops k here (in_part chosen s) }

pub member_list_round : {c d e : Counts} {xs : List Expected} {a b g : List Placed} → Onward c xs a d (part member_list ∷ []) b → NoNext (terminal.Symbol Symbol.CloseBrace) b →
    Within d (part member ∷ []) b e g → Onward c xs a e (part member_list ∷ []) g
member_list_round o none w = onward_step (member_list_on o none) w

pub member_list_end : {c d : Counts} {xs : List Expected} {a b : List Placed} → Onward c xs a d (part member_list ∷ []) b → Next (terminal.Symbol Symbol.CloseBrace) b → Within c xs a d b
member_list_end {d = d} {b = b} o n = o.reads d b (read_part d d member_list [] b b (rw (next_comes Symbol.CloseBrace b n) refl) nothing)

pub member_list_refused : {c d : Counts} {xs : List Expected} {a b : List Placed} {end end_now : Place} (stop : Stop) → Onward c xs a d (part member_list ∷ []) b →
    NoNext (terminal.Symbol Symbol.CloseBrace) b → end_now ≡ end → Refused d (part member ∷ []) b end_now stop → Refused c xs a end stop
member_list_refused stop o none is r = onward_refused stop (member_list_on o none) is r

-- the classes of a program
pub program_refused : (c : Counts) (before : List Placed) (end : Place) (stop : Stop) → Refused c (part class ∷ []) before end stop → Refused c (part program ∷ []) before end stop
program_refused c before end stop r = refused_part c program _ before end stop refl (refused_first c _ (part more_classes ∷ []) before end stop r)

pub program_begun : {c d : Counts} {a b : List Placed} → Within c (part class ∷ []) a d b → Onward c (part program ∷ []) a d (part more_classes ∷ []) b
program_begun w = record { reads = λ e after v. read_part _ _ program _ _ _ refl (seq w v); stops = λ k here s. in_part refl (stops_after w s) }

pub some_rest : (rest : List Placed) → (length rest == 0) ≡ false → rest ≡ [] → ⊥
some_rest [] some is = absurd (let no : true ≡ false = some in cc)
some_rest (next ∷ rest) some is = absurd (let n = ap length is in omega (arith, n))

classes_come : (b : List Placed) → (b ≡ [] → ⊥) → choose more_classes (next_of b) ≡ Some (part class ∷ part more_classes ∷ [])
classes_come [] some = absurd (some refl)
classes_come (next ∷ after) some = refl

more_classes_on : {c d : Counts} {xs : List Expected} {a b : List Placed} → Onward c xs a d (part more_classes ∷ []) b → (b ≡ [] → ⊥) → Onward c xs a d (part class ∷ part more_classes ∷ []) b
more_classes_on {b = b} o some =
    record { reads = λ e after v. o.reads e after (read_part _ _ more_classes _ _ _ (classes_come b some) v); stops = λ k here s. o.stops k here (in_part (classes_come b some) s) }

pub more_classes_round : {c d e : Counts} {xs : List Expected} {a b g : List Placed} → Onward c xs a d (part more_classes ∷ []) b → (b ≡ [] → ⊥) →
    Within d (part class ∷ []) b e g → Onward c xs a e (part more_classes ∷ []) g
more_classes_round o some w = onward_step (more_classes_on o some) w

pub more_classes_end : {c d : Counts} {xs : List Expected} {a b : List Placed} → Onward c xs a d (part more_classes ∷ []) b → b ≡ [] → Within c xs a d b
more_classes_end {d = d} {b = b} o none = o.reads d b (read_part d d more_classes [] b b (rw none refl) nothing)

pub more_classes_refused : {c d : Counts} {xs : List Expected} {a b : List Placed} {end end_now : Place} (stop : Stop) → Onward c xs a d (part more_classes ∷ []) b → (b ≡ [] → ⊥) →
    end_now ≡ end → Refused d (part class ∷ []) b end_now stop → Refused c xs a end stop
more_classes_refused stop o some is r = onward_refused stop (more_classes_on o some) is r

-- a text that was read to its end
pub read_within : {T : Type 0} (result : Result T Stop) (list : List Placed) (new : Cursor) → OnOk result (Within at_start (part program ∷ []) list (counts new) new.rest.now) →
    OnOk result (new.rest.now ≡ []) → OnOk result (IsWithin list)
read_within (Ok x) list new w ends = (counts new, subst (λ (after : List Placed). Within at_start (part program ∷ []) list (counts new) after) ends w)
read_within (Err stop) list new w ends = tt

-- What every program that is derived by the grammar is.
use Rattle.std.proofs.Common.{◌≡◌, ◌∙◌, ℕ, suc, ◌<◌, ◌≤◌, List, [], ◌∷◌, length, All, refl, ap, sym, subst, arith}
use Rattle.std.proofs.lemmas.List.{append-nil}
use Rattle.std.specs.List.{flat_map, IsDistinct}
use Rattle.std.specs.Str.{bytes_eq}
use Rattle.std.proofs.lemmas.List.Elements.{All-nil, All-cons, All-append, All-same}
use Rattle.std.proofs.lemmas.Option.{slice_get_within}
use Rattle.syntax_tokens.specs.Cutting.{StandInOrder}
use Rattle.syntax_tokens.specs.declared.token.Token.{Token}
use Rattle.syntax_tokens.specs.declared.token.TokenKind.{TokenKind}
use Rattle.syntax_tokens.specs.declared.token.TokenKind.TheVariants as kind
use Rattle.syntax_tokens.specs.declared.terminal.Placed.{Placed}
use Rattle.syntax_tokens.specs.declared.terminal.Terminal.{Terminal}
use Rattle.syntax_tokens.specs.declared.terminal.Terminal.TheVariants as terminal
use Rattle.syntax_tokens.specs.Says.{token_text, Means, MeanAll}
use Rattle.syntax_tokens.proofs.Order.{order-count}
use Rattle.syntax_tree.specs.declared.class.Class.{Class}
use Rattle.syntax_tree.specs.declared.class.Program.{Program}
use Rattle.syntax_tree.specs.Names.{class_names, program_names}
use Rattle.syntax_tree.specs.Size.{program_size}
use Rattle.syntax_tree.specs.Shaped.{MemberHasTargets}
use Rattle.syntax_grammar.specs.Classes.{DerivesProgram}
use Rattle.syntax_grammar.specs.Program.{IsProgram}
use Rattle.syntax_grammar.proofs.Distinct.{all_distinct}
use Rattle.syntax_grammar.proofs.Held.{name_said, names_said, program_held}
use Rattle.syntax_grammar.proofs.Sized.{program_paid}
use Rattle.syntax_grammar.proofs.Targeted.{program_targets}

-- a name that a terminal says is a position among the names
one_below : (names : List (List ℕ)) (form : TokenKind) (text : List ℕ) (said : Terminal) → Means names form text said → All (λ name. name < length names) (name_said said)
one_below names kind.Name text (terminal.Name name) is =
    All-cons (λ one. one < length names) name [] (slice_get_within names name text is) (All-nil (λ one. one < length names))
one_below names kind.Int text (terminal.Name name) is = absurd is
one_below names kind.Text text (terminal.Name name) is = absurd is
one_below names (kind.Symbol symbol) text (terminal.Name name) is = absurd is
one_below names (kind.Keyword keyword) text (terminal.Name name) is = absurd is
one_below names form text (terminal.Int n) is = All-nil (λ one. one < length names)
one_below names form text (terminal.Text n) is = All-nil (λ one. one < length names)
one_below names form text (terminal.Symbol n) is = All-nil (λ one. one < length names)
one_below names form text (terminal.Keyword n) is = All-nil (λ one. one < length names)

all_below : (names : List (List ℕ)) (bytes : List ℕ) (tokens : List Token) (list : List Placed) → MeanAll names bytes tokens list → All (λ name. name < length names) (names_said list)
all_below names bytes [] [] all = All-nil (λ one. one < length names)
all_below names bytes [] (said ∷ list) all = absurd all
all_below names bytes (token ∷ tokens) [] all = absurd all
all_below names bytes (token ∷ tokens) (said ∷ list) (place, means, all) =
    All-append (λ one. one < length names) (name_said said.terminal) (names_said list)
    (one_below names token.kind (token_text bytes token) said.terminal means) (all_below names bytes tokens list all)

said_in : {list : List Placed} {classes : List Class} → DerivesProgram list classes → names_said list ≡ flat_map class_names classes
said_in d = (program_held d).is ∙ append-nil _

each_said : (names : List (List ℕ)) (bytes : List ℕ) (tokens : List Token) (list : List Placed) → MeanAll names bytes tokens list → length list ≡ length tokens
each_said names bytes [] [] all = refl
each_said names bytes [] (said ∷ list) all = absurd all
each_said names bytes (token ∷ tokens) [] all = absurd all
each_said names bytes (token ∷ tokens) (said ∷ list) all = ap (λ n. suc n) (each_said names bytes tokens list all.2)

pub named_in : {bytes : List ℕ} {tokens : List Token} {program : Program} → IsProgram bytes tokens program → All (λ name. name < length program.names) (program_names program)
named_in {bytes} {tokens} {program} p =
    All-same (λ name. name < length program.names) (program_names program) (names_said p.list) (sym (said_in p.derived)) (all_below program.names bytes tokens p.list p.said)

pub distinct_in : {bytes : List ℕ} {tokens : List Token} {program : Program} → IsProgram bytes tokens program → IsDistinct bytes_eq program.names
distinct_in {bytes} {tokens} p = subst (λ names. IsDistinct bytes_eq names) (sym p.names) (all_distinct bytes tokens)

pub targets_in : {bytes : List ℕ} {tokens : List Token} {program : Program} → IsProgram bytes tokens program → All (λ class. All MemberHasTargets class.members) program.classes
targets_in p = program_targets p.derived

-- each node takes a token of the text, which has no more of them than bytes
pub sized_in : {bytes : List ℕ} {tokens : List Token} {program : Program} → StandInOrder bytes 0 tokens → IsProgram bytes tokens program → program_size program ≤ length bytes
sized_in {bytes} {tokens} {program} stand p =
    omega (arith, program_paid p.derived, each_said program.names bytes tokens p.list p.said, order-count bytes 0 tokens (omega arith) stand)

-- The program that a text derives is as texts have it.
use Rattle.std.proofs.Common.{◌≤◌, ℕ, pos, FitsSigned, List, [], ◌∷◌, length, sym, subst, arith}
use Rattle.std.specs.Int.{w32}
use Rattle.std.proofs.lemmas.Int.{ints}
use Rattle.lang_base.specs.Lexical.{decimal_value}
use Rattle.lang_base.specs.declared.place.Place.{Place}
use Rattle.syntax_tokens.specs.declared.token.Token.{Token}
use Rattle.syntax_tokens.specs.declared.token.TokenKind.{TokenKind}
use Rattle.syntax_tokens.specs.declared.token.TokenKind.TheVariants as kind
use Rattle.syntax_tokens.specs.Cutting.{Cuts, StandInOrder}
use Rattle.syntax_tokens.proofs.Spans.{cuts-stand}
use Rattle.syntax_tokens.specs.declared.terminal.Placed.{Placed}
use Rattle.syntax_tokens.specs.declared.terminal.Terminal.{Terminal}
use Rattle.syntax_tokens.specs.declared.terminal.Terminal.TheVariants as terminal
use Rattle.syntax_tokens.specs.Says.{CanSay, token_text, Means, MeanAll}
use Rattle.syntax_tokens.proofs.Order.{order-count, can_say}
use Rattle.syntax_tree.specs.declared.class.Program.{Program}
use Rattle.syntax_grammar.specs.Program.{IsProgram}
use Rattle.syntax_grammar.proofs.Promised.{named_in, distinct_in, targets_in, sized_in}
use Rattle.syntax_grammar.specs.Written.{IsWritten}
use Rattle.syntax_grammar.proofs.written.Numbers.{SaysFitting, AllSayFitting}
use Rattle.syntax_grammar.proofs.written.Classes.{program_written}

value_fits : (n : ℕ) → n ≤ 2147483647 → FitsSigned w32 (pos n)
value_fits n small = omega (arith, ints)

said_fits : (names : List (List ℕ)) (form : TokenKind) (text : List ℕ) (said : Terminal) → CanSay form text → Means names form text said → SaysFitting said
said_fits names kind.Int text (terminal.Int n) small is = subst (λ k. FitsSigned w32 k) (sym is) (value_fits (decimal_value text) small)
said_fits names kind.Name text (terminal.Int n) small is = absurd is
said_fits names kind.Text text (terminal.Int n) small is = absurd is
said_fits names (kind.Symbol symbol) text (terminal.Int n) small is = absurd is
said_fits names (kind.Keyword keyword) text (terminal.Int n) small is = absurd is
said_fits names form text (terminal.Name name) small is = tt
said_fits names form text (terminal.Text inside) small is = tt
said_fits names form text (terminal.Symbol symbol) small is = tt
said_fits names form text (terminal.Keyword keyword) small is = tt

all_fit : (names : List (List ℕ)) (bytes : List ℕ) (from : ℕ) (tokens : List Token) (list : List Placed) → StandInOrder bytes from tokens → MeanAll names bytes tokens list → AllSayFitting list
all_fit names bytes from [] [] stand all = tt
all_fit names bytes from [] (said ∷ list) stand all = absurd all
all_fit names bytes from (token ∷ tokens) [] stand all = absurd all
all_fit names bytes from (token ∷ tokens) (said ∷ list) (following, stands, others) (place, means, all) =
    (said_fits names token.kind (token_text bytes token) said.terminal (can_say token.kind _ _ stands.is) means, all_fit names bytes token.to tokens list others all)

few_said : (names : List (List ℕ)) (bytes : List ℕ) (tokens : List Token) (list : List Placed) → MeanAll names bytes tokens list → length list ≤ length tokens
few_said names bytes [] [] all = omega arith
few_said names bytes [] (said ∷ list) all = absurd all
few_said names bytes (token ∷ tokens) [] all = absurd all
few_said names bytes (token ∷ tokens) (said ∷ list) all = omega (arith, few_said names bytes tokens list all.2)

pub text_written : (text : List ℕ) (tokens : List Token) (end : Place) (program : Program) → length text ≤ 1048576 → Cuts text tokens end → IsProgram text tokens program → IsWritten program
text_written text tokens end program short cut p =
    let stand : StandInOrder text 0 tokens = cuts-stand text tokens end cut in
    let few = few_said program.names text tokens p.list p.said in
    let size = sized_in stand p in
    record {
      shaped = record { distinct = distinct_in p; named = named_in p; targets = targets_in p };
      classes = program_written p.derived (record {
        numbers = all_fit program.names text 0 tokens p.list stand p.said;
        few = omega (arith, few, order-count text 0 tokens (omega arith) stand);
      });
      small = omega (arith, size);
    }

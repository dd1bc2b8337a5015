-- What `search` is handed at a need of a function: `search auto` closes most of them.
use Rattle.lexer.proofs.Auto as Lexer

pub ruleset auto = (Lexer.auto)

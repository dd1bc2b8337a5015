use Rattle.spec.specs.Strings.{short_escape}
use Rattle.lexer.proofs.Auto.{auto}
use Rattle.lexer.proofs.escapes.short_escape.Goals as goal

pub returns-in-34 : goal.returns-in-34
unfolding short_escape
returns-in-34 c = search auto

pub returns-in-92 : goal.returns-in-92
unfolding short_escape
returns-in-92 c = search auto

pub returns-in-47 : goal.returns-in-47
unfolding short_escape
returns-in-47 c = search auto

pub returns-in-98 : goal.returns-in-98
unfolding short_escape
returns-in-98 c = search auto

pub returns-in-102 : goal.returns-in-102
unfolding short_escape
returns-in-102 c = search auto

pub returns-in-110 : goal.returns-in-110
unfolding short_escape
returns-in-110 c = search auto

pub returns-in-114 : goal.returns-in-114
unfolding short_escape
returns-in-114 c = search auto

pub returns-in-116 : goal.returns-in-116
unfolding short_escape
returns-in-116 c = search auto

pub returns-in_default : goal.returns-in_default
unfolding short_escape
returns-in_default c = search auto

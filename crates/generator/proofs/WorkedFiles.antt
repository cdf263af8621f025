-- The texts of the first two members, and that of number 0, written out.
use Rattle.std.proofs.Common.{◌≡◌, ◌++◌, codes, refl, arith}
use Rattle.std.proofs.lemmas.Fmt.{decimal_digit}
use Rattle.generator.specs.Files.{problem_text, trace_text}

no_axiom_problem : problem_text 0
    ≡ codes "fof(base,axiom,p0(c)).\n"
    ++ codes "fof(goal,conjecture,?[X]:p0(X)).\n"
no_axiom_problem = rw (decimal_digit 0 (omega arith)) refl

no_axiom_trace : trace_text 0
    ≡ codes "fof(base,axiom,p0(c),file(g,base)).\n"
    ++ codes "fof(goal,conjecture,?[X]:p0(X),file(g,goal)).\n"
    ++ codes "fof(neg,negated_conjecture,![X]:~p0(X),inference(n,[status(cth)],[goal])).\n"
    ++ codes "cnf(end,plain,$false,inference(r,[status(thm)],[base,neg])).\n"
no_axiom_trace = rw (decimal_digit 0 (omega arith)) refl

first_problem : problem_text 1
    ≡ codes "fof(base,axiom,p0(c)).\n"
    ++ codes "fof(next0,axiom,![X]:(p0(X)=>?[Y]:(r(X,Y)&p1(Y)))).\n"
    ++ codes "fof(goal,conjecture,?[X]:p1(X)).\n"
first_problem = rw (decimal_digit 0 (omega arith), decimal_digit 1 (omega arith)) refl

first_trace : trace_text 1
    ≡ codes "fof(base,axiom,p0(c),file(g,base)).\n"
    ++ codes "fof(next0,axiom,![X]:(p0(X)=>?[Y]:(r(X,Y)&p1(Y))),file(g,next0)).\n"
    ++ codes "fof(sk0,plain,![X]:(~p0(X)|(r(X,s0(X))&p1(s0(X))))"
    ++ codes ",inference(k,[status(esa)],[next0])).\n"
    ++ codes "cnf(d1,plain,p1(s0(c)),inference(r,[status(thm)],[base,sk0])).\n"
    ++ codes "fof(goal,conjecture,?[X]:p1(X),file(g,goal)).\n"
    ++ codes "fof(neg,negated_conjecture,![X]:~p1(X),inference(n,[status(cth)],[goal])).\n"
    ++ codes "cnf(end,plain,$false,inference(r,[status(thm)],[d1,neg])).\n"
first_trace = rw (decimal_digit 0 (omega arith), decimal_digit 1 (omega arith)) refl

second_problem : problem_text 2
    ≡ codes "fof(base,axiom,p0(c)).\n"
    ++ codes "fof(next0,axiom,![X]:(p0(X)=>?[Y]:(r(X,Y)&p1(Y)))).\n"
    ++ codes "fof(next1,axiom,![X]:(p1(X)=>?[Y]:(r(X,Y)&p2(Y)))).\n"
    ++ codes "fof(goal,conjecture,?[X]:p2(X)).\n"
second_problem =
    rw (decimal_digit 0 (omega arith), decimal_digit 1 (omega arith), decimal_digit 2 (omega arith))
    refl

second_trace : trace_text 2
    ≡ codes "fof(base,axiom,p0(c),file(g,base)).\n"
    ++ codes "fof(next0,axiom,![X]:(p0(X)=>?[Y]:(r(X,Y)&p1(Y))),file(g,next0)).\n"
    ++ codes "fof(next1,axiom,![X]:(p1(X)=>?[Y]:(r(X,Y)&p2(Y))),file(g,next1)).\n"
    ++ codes "fof(sk0,plain,![X]:(~p0(X)|(r(X,s0(X))&p1(s0(X))))"
    ++ codes ",inference(k,[status(esa)],[next0])).\n"
    ++ codes "fof(sk1,plain,![X]:(~p1(X)|(r(X,s1(X))&p2(s1(X))))"
    ++ codes ",inference(k,[status(esa)],[next1])).\n"
    ++ codes "cnf(d1,plain,p1(s0(c)),inference(r,[status(thm)],[base,sk0])).\n"
    ++ codes "cnf(d2,plain,p2(s1(s0(c))),inference(r,[status(thm)],[d1,sk1])).\n"
    ++ codes "fof(goal,conjecture,?[X]:p2(X),file(g,goal)).\n"
    ++ codes "fof(neg,negated_conjecture,![X]:~p2(X),inference(n,[status(cth)],[goal])).\n"
    ++ codes "cnf(end,plain,$false,inference(r,[status(thm)],[d2,neg])).\n"
second_trace =
    rw (decimal_digit 0 (omega arith), decimal_digit 1 (omega arith), decimal_digit 2 (omega arith))
    refl

-- What is given behind what was given before.
use Rattle.std.specs.Prelude.{List, ◌++◌, Result, Ok}
use Rattle.arti_aql_parse.specs.Tree.{PlainMember}
use Rattle.arti_query_model.specs.declared.tests.PropTest.{PropTest}
use Rattle.arti_query_model.specs.declared.fault.TypeFault.{TypeFault}
use Rattle.arti_query_model.specs.Outcome.{◌>>=◌}
use Rattle.arti_query_model.specs.Typing.{Begin, SameTests, same_tests}
use Rattle.arti_aql_domains.specs.declared.same.Found.{Found}

-- these, and then what is given
abbrev pub put_before : {B E : Type 0} → List B → Result (List B) E → Result (List B) E
put_before ys r = r >>= λ zs. Ok (ys ++ zs)

-- tests behind others
abbrev pub behind_tests : List PropTest → Result SameTests TypeFault → Result SameTests TypeFault
behind_tests before r = r >>= λ s. Ok (record { path = s.path; tests = before ++ s.tests })

abbrev pub found_view : Found → SameTests
found_view f = record { path = f.path; tests = f.tests.items }

-- what these members give behind what was found
abbrev pub told : Begin → Found → List PlainMember → Result SameTests TypeFault
told b found ms = behind_tests found.tests.items (same_tests b found.path ms)

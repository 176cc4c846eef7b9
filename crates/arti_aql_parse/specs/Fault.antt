-- Refusals of tokens as refusals of their text.
use Rattle.arti_aql_parse.specs.declared.fault.ParseFault.{ParseFault}
use Rattle.arti_aql_parse.specs.declared.fault.ParseFault.TheVariants as parsing
use Rattle.arti_aql_parse.specs.declared.fault.ReadFault.{ReadFault}
use Rattle.arti_aql_parse.specs.declared.fault.ReadFault.TheVariants as reading

abbrev pub fault_of : ReadFault → ParseFault
fault_of reading.Memory = parsing.Memory
fault_of (reading.Lex f) = parsing.Lex f
fault_of (reading.Expected at part) = parsing.Expected at part
fault_of reading.TooDeep = parsing.TooDeep

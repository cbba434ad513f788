-- What a step hands out, in the paper's numbers.
use Rattle.refusals.specs.Numbers.{outcome}
use Rattle.clock.specs.declared.Stepped.{Stepped}
use Rattle.clock.specs.Stepping.{Step}

abbrev pub in_numbers : Stepped → Step
in_numbers stepped = record { clock = stepped.clock; answer = outcome stepped.answer }

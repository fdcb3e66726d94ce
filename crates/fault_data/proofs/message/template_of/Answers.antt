use Rattle.std.proofs.Common.{sym, ap}
use Rattle.fault_data.specs.DiagnosticView.{diagnostic_of}
use Rattle.fault_data.specs.Messages.{diagnostic_message}
use Rattle.fault_data.proofs.message.template_of.Goals as goal

pub returns-in-TransitiveImplementedInterfaces : goal.returns-in-TransitiveImplementedInterfaces
returns-in-TransitiveImplementedInterfaces c = sym (ap (λ d. diagnostic_message (diagnostic_of d)) c.in-TransitiveImplementedInterfaces.is)

pub returns-in-InvalidImplementationFieldType : goal.returns-in-InvalidImplementationFieldType
returns-in-InvalidImplementationFieldType c = sym (ap (λ d. diagnostic_message (diagnostic_of d)) c.in-InvalidImplementationFieldType.is)

pub returns-in-InvalidImplementationFieldArgumentType : goal.returns-in-InvalidImplementationFieldArgumentType
returns-in-InvalidImplementationFieldArgumentType c = sym (ap (λ d. diagnostic_message (diagnostic_of d)) c.in-InvalidImplementationFieldArgumentType.is)

pub returns-in-RecursiveInputObjectDefinition : goal.returns-in-RecursiveInputObjectDefinition
returns-in-RecursiveInputObjectDefinition c = sym (ap (λ d. diagnostic_message (diagnostic_of d)) c.in-RecursiveInputObjectDefinition.is)

pub returns-in-UniqueArgument : goal.returns-in-UniqueArgument
returns-in-UniqueArgument c = sym (ap (λ d. diagnostic_message (diagnostic_of d)) c.in-UniqueArgument.is)

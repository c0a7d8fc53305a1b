pub mod ParamExamples

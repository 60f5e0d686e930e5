pub mod ScriptRows

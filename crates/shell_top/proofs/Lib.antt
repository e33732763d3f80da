pub mod CrossingLemmas
mod GoingLemmas
mod ListenerLemmas
mod ReportLemmas
mod RunLemmas
mod ScriptLemmas
mod SettingLemmas
mod SoakLemmas
mod SumLemmas
